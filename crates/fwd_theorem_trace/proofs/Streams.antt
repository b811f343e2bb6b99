-- Messages come over their own connection.
use Rattle.std.proofs.Common.{◌≡◌, ℕ, Bool, true, false, cond, Option, Some, None, refl}
use Rattle.std.specs.Prelude.{◌==◌}
use Rattle.fwd_settings.specs.declared.settings_types.AllSettings.{AllSettings}
use Rattle.fwd_settings.specs.declared.settings_types.InputSet.{InputSet}
use Rattle.fwd_settings.specs.declared.settings_types.InputKind.{InputKind}
use Rattle.fwd_settings.specs.declared.settings_types.InputKind.TheVariants as input_kind
use Rattle.fwd_model.specs.Fact.{History, Stream, MessageStream, Standard}
use Rattle.fwd_model.specs.Settings.{input_at}
use Rattle.fwd_model.specs.Streams.{is_joined, stream_by, stream_at, stream_of}

abbrev pub IsOwn : ℕ → Option Stream → Type 0
IsOwn conn (Some (MessageStream other)) = other ≡ conn
IsOwn conn at = Unit {0}

own_by : (input conn : ℕ) (joined : Bool) (kind : InputKind) → IsOwn conn (stream_by input conn joined kind)
own_by input conn true (input_kind.Tcp host port) = tt
own_by input conn false (input_kind.Tcp host port) = tt
own_by input conn true (input_kind.Forward host port) = refl
own_by input conn false (input_kind.Forward host port) = tt
own_by input conn joined (input_kind.Tail paths from_head) = tt
own_by input conn joined input_kind.Stdin = by (conn == 0)
  where
    by : (b : Bool) → IsOwn conn (cond b (Some (Standard input)) None)
    by true = tt
    by false = tt

own_at : (input conn : ℕ) (joined : Bool) (set : Option InputSet) → IsOwn conn (stream_at input conn joined set)
own_at input conn joined None = tt
own_at input conn joined (Some set) = own_by input conn joined set.kind

pub own_stream : (s : AllSettings) (h : History) (input conn : ℕ) → IsOwn conn (stream_of s h input conn)
own_stream s h input conn = own_at input conn (is_joined s h input conn) (input_at s input)
