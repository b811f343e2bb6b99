-- A keyed loop whose links have other numbers.
use Rattle.std.specs.Prelude.{◌≡◌, ℕ, List, map}
use Rattle.fwd_model.specs.Trace.{TraceEntry}
use Rattle.fwd_secure.specs.declared.keys.Keys.{Keys}
use Rattle.fwd_secure.specs.declared.handshakes.KeptBytes.{KeptBytes}
use Rattle.fwd_secure.specs.declared.handshakes.KeptBytes.TheVariants.{OfConn, OfLink}
use Rattle.fwd_secure.specs.Handshakes.{Handshakes, no_handshakes, link_at}
use Rattle.fwd_secure_trace.specs.Secured.{IsSecured}
use Rattle.fwd_theorem_links.specs.RenamedLinks.{renamed_link, renamed_trace}

module _ (rename : ℕ → ℕ) where
  abbrev pub renamed_kept : KeptBytes → KeptBytes
  renamed_kept (OfConn input conn bytes) = OfConn input conn bytes
  renamed_kept (OfLink link bytes) = OfLink (renamed_link rename link) bytes

  -- the same state, but for the numbers of links
  pub record IsRenamedState (old new : Handshakes) : Type 0 where
    pub listens : new.listens ≡ old.listens
    pub held : new.held ≡ old.held
    pub joined : new.joined ≡ old.joined
    pub links : (link : ℕ) → link_at new (rename link) ≡ link_at old link
    pub kept : new.kept ≡ map renamed_kept old.kept
    pub wrongs : new.wrongs ≡ old.wrongs

  -- the renamed trace of the engine over that of the devices, up to such a state
  pub record IsSecuredRenamed (keys : Keys) (above below : List TraceEntry) (t : Handshakes) : Type 0 where
    pub handshakes : Handshakes
    pub secured : IsSecured keys no_handshakes (renamed_trace rename above) (renamed_trace rename below) handshakes
    pub same : IsRenamedState t handshakes
