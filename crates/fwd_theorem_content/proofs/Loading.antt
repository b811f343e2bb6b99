-- After the files on the disk were loaded, each recovered chunk has its content in its file.
use Rattle.std.proofs.Common.{◌≡◌, ℕ, ◌+◌, true, false, Bool, if◌then◌else◌, List, [], length, take, unwrap_or, Option, Some, None, append_assoc, refl, sym, ◌∙◌, ap, subst}
use Rattle.std.specs.Option.{option_map_or}
use Rattle.fwd_outside.specs.Program.{Return, Ask}
use Rattle.fwd_outside.specs.AtCrashPoints.{HoldsThroughout}
use Rattle.fwd_outside.proofs.CrashPointLemmas.{holds_weaker}
use Rattle.fwd_outside.specs.File.{FileState, content as content_of_file}
use Rattle.fwd_outside.specs.DiskStates.{Files}
use Rattle.fwd_chunk.specs.declared.append.ChunkHead.{ChunkHead}
use Rattle.fwd_chunk.specs.declared.chunk.Chunk.{Chunk}
use Rattle.fwd_chunk.specs.Layout.{part, meta_length}
use Rattle.fwd_chunk.specs.Check.{enough_bytes}
use Rattle.fwd_chunk.specs.Name.{found_name}
use Rattle.fwd_chunk.specs.declared.kept.Kept.{Kept as Held}
use Rattle.fwd_backlog.specs.Listing.{path_of}
use Rattle.fwd_backlog.specs.Recovered.{AreDurable}
use Rattle.fwd_settings.specs.declared.settings_types.AllSettings.{AllSettings}
use Rattle.fwd_settings.specs.Requirements.{MeetsRequirements}
use Rattle.fwd_model.specs.Fact.{History}
use Rattle.fwd_model.specs.Trace.{Action}
use Rattle.fwd_model.specs.RecoveryActions.{recovers}
use Rattle.fwd_model.specs.RecoveredFile.{recovered_chunk}
use Rattle.fwd_model.specs.Chunks.{content}
use Rattle.fwd_model.specs.ChunkStorage.{kept_of}
use Rattle.fwd_theorem_trace.specs.Past.{logged}
use Rattle.fwd_theorem_trace.specs.Allowed.{IsLoading}
use Rattle.fwd_theorem_crash.specs.CrashPoint.{CrashPoint, crash_point, LeadsTo}
use Rattle.fwd_theorem_crash.specs.Safety.{IsSafe}
use Rattle.fwd_theorem_crash.proofs.OrderInvariant.{head_in, head_of, InOrder as IsDurableOrder}
use Rattle.fwd_theorem_crash.proofs.FileContents.{found_meta, found_content}
use Rattle.fwd_theorem_crash.proofs.LoadedHistory.{at_file, found_head, IsReadOf, LogsOnlyFiles, gathered_loading, was_read, known, held_file}
use Rattle.fwd_theorem_crash.proofs.LoadingFacts.{Along, LoadedTo, goes_loading}
use Rattle.fwd_theorem_crash.proofs.LoadingSafety.{LoadedAs, loading_holds}
use Rattle.fwd_theorem_crash.proofs.SimpleFacts.{hands_at_first}
use Rattle.fwd_theorem_content.proofs.KeptContent.{HasContent, FilesHaveContents}
use Rattle.fwd_theorem_content.proofs.FileBytes.{part_of_all}
use Rattle.fwd_theorem_content.proofs.Points.{Hands}

-- a file that is there has these bytes
bytes_are : (file : FileState) (all : List ℕ) → content_of_file file ≡ Some all → file.bytes ≡ all
bytes_are file all stands = by file.there stands
  where
    by : (b : Bool) → (if b then Some file.bytes else None) ≡ Some all → file.bytes ≡ all
    by true is = cc is
    by false is = absurd (cc is)

path_found : (root stream name : List ℕ) → found_name root stream name ≡ path_of root (at_file stream name)
path_found root stream name = simp append_assoc refl

-- the content of a chunk that was recovered from the first bytes of a file
content_in_all : (all bytes : List ℕ) (chunk : Chunk) (cut : ℕ) → bytes ≡ take cut all → recovered_chunk bytes ≡ Some chunk → part all (24 + chunk.meta) (length chunk.content) ≡ chunk.content
content_in_all all bytes chunk cut is found =
    let meta : meta_length bytes ≡ chunk.meta = sym (found_meta bytes chunk found) in
    let there = found_content bytes chunk found in
    let inside : chunk.content ≡ part (take cut all) (24 + chunk.meta) there.0 =
    there.1 ∙ ap (λ (k : ℕ). part bytes (24 + k) there.0) meta ∙ ap (λ (l : List ℕ). part l (24 + chunk.meta) there.0) is in
    part_of_all all chunk.content cut (24 + chunk.meta) there.0 inside

module _ (s : AllSettings) (first : Files) where
  found_has : (h : History) (number : ℕ) (head : ChunkHead) → LogsOnlyFiles s first h → head_of (kept_of s h number) ≡ Some head → HasContent head (content h number) first
  found_has h number head gathered is = by (kept_of s h number) refl is
    where
      by : (kept : Option Held) → kept_of s h number ≡ kept → head_of kept ≡ Some head → HasContent head (content h number) first
      by None at none = absurd (cc none)
      by (Some kept) at some =
          let loading : IsLoading h = gathered_loading s first h gathered in
          let held = held_file s h number kept loading at in
          let stream : List ℕ = held.file.stream in
          let name : List ℕ = held.file.name in
          let chunk : Chunk = held.file.chunk in
          let read : IsReadOf s first (at_file stream name) held.file.bytes = was_read s first h number stream name held.file.bytes gathered held.file.among in
          let named : List ℕ = found_name (unwrap_or s.service.path []) stream name in
          let path : named ≡ path_of read.root (at_file stream name) = ap (λ (o : Option (List ℕ)). found_name (unwrap_or o []) stream name) read.under ∙ path_found read.root stream name in
          let both : Some (found_head named chunk) ≡ Some head = ap head_in held.is ∙ some in
          let same : found_head named chunk ≡ head = cc both in
          let bytes : (first named).bytes ≡ read.all = ap (λ (n : List ℕ). (first n).bytes) path ∙ bytes_are (first (path_of read.root (at_file stream name))) read.all read.stands in
          let has : content h number ≡ chunk.content =
          (known s h number stream name held.file.bytes loading held.file.among).content ∙ ap (λ (o : Option Chunk). option_map_or (λ (c : Chunk). c.content) o []) held.file.found in
          let there : part (first named).bytes (24 + chunk.meta) (length chunk.content) ≡ content h number =
          ap (λ (l : List ℕ). part l (24 + chunk.meta) (length chunk.content)) bytes ∙ content_in_all read.all held.file.bytes chunk enough_bytes read.part held.file.found ∙ sym has in
          subst (λ (x : ChunkHead). HasContent x (content h number) first) same there

  -- the result of loading: nothing was logged, or the recovered files satisfy the invariant
  abbrev pub Loaded : Option History → CrashPoint → Type 0
  Loaded None m = logged m.past ≡ []
  Loaded (Some h) m = (h ≡ logged m.past) × FilesHaveContents s h m.files × IsLoading h

  loaded_order : (h : History) (files : Files) → files ≡ first → LogsOnlyFiles s first h → IsDurableOrder s first h first → FilesHaveContents s h files
  loaded_order h files same gathered order =
      subst (λ (now : Files). FilesHaveContents s h now) (sym same)
      (record { has = λ number head held. found_has h number head gathered held; differ = order.differ; free = order.free })

  abbrev Both : Option History → CrashPoint → Type 0
  Both result m = LoadedTo s first result m × ((m.files ≡ first) × LoadedAs s first result m)

  as_loaded : (result : Option History) (m : CrashPoint) → Both result m → Loaded result m
  as_loaded None m both = both.0.1
  as_loaded (Some h) m both = (both.0.1, loaded_order h m.files both.0.0 both.0.2 both.1.1.1, gathered_loading s first h both.0.2)

  along_hands : (m : CrashPoint) → Along s first m → Hands s m
  along_hands m along due = hands_at_first s (logged m.past) (gathered_loading s first (logged m.past) along.1)

  -- two properties hold at the end
  holds_both : {R : Type 0} (P P2 : CrashPoint → Type 0) (Q Q2 : R → CrashPoint → Type 0) (m : CrashPoint) (p : Action R) → HoldsThroughout LeadsTo P Q m p → HoldsThroughout LeadsTo P2 Q2 m p → HoldsThroughout LeadsTo P (λ x end. Q x end × Q2 x end) m p
  holds_both P P2 Q Q2 m (Return x) one two = (one.0, (one.1, two.1))
  holds_both P P2 Q Q2 m (Ask call go) one two = (
    one.0,
    λ answer during end passes.
        let first_went = one.1 answer during end passes in
        let second_went = two.1 answer during end passes in
        (first_went.0, holds_both P P2 Q Q2 end (go answer) first_went.1 second_went.1),
  )

  pub loads : MeetsRequirements s → AreDurable first → HoldsThroughout LeadsTo (Hands s) (λ result m. Loaded result m) (crash_point [] first) (recovers s)
  loads settings fresh =
      holds_weaker LeadsTo (Along s first) (Hands s) (λ result m. Both result m) (λ result m. Loaded result m) (crash_point [] first) (recovers s) along_hands as_loaded
      (holds_both (Along s first) (IsSafe s first) (λ result m. LoadedTo s first result m) (λ result m. (m.files ≡ first) × LoadedAs s first result m) (crash_point [] first) (recovers s) (goes_loading s first fresh) (loading_holds s first settings fresh))
