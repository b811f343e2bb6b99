-- A chunk whose file is safe is recovered.
use Rattle.std.proofs.Common.{◌≡◌, inl, inr, ℕ, not, Bool, true, false, IsTrue, if◌then◌else◌, List, [], Option, Some, None, refl, sym, ◌∙◌, ap, subst}
use Rattle.std.specs.Prelude.{Contains}
use Rattle.std.specs.Option.{option_map_or}
use Rattle.fwd_outside.specs.Program.{Return, Execution}
use Rattle.fwd_outside.specs.AtCrashPoints.{Ends}
use Rattle.fwd_outside.proofs.CrashPointLemmas.{holds_end}
use Rattle.fwd_outside.specs.declared.home.Home.TheVariants.{Disk}
use Rattle.fwd_outside.specs.File.{FileState, IsPostCrash, content}
use Rattle.fwd_outside.specs.DiskStates.{Files}
use Rattle.fwd_chunk.specs.declared.chunk.Chunk.{Chunk}
use Rattle.fwd_backlog.specs.declared.listed_file.Listed.{Listed}
use Rattle.fwd_backlog.specs.Listing.{path_of, IsNamed}
use Rattle.fwd_backlog.specs.Recovered.{AreDurable}
use Rattle.fwd_settings.specs.declared.settings_types.AllSettings.{AllSettings}
use Rattle.fwd_model.specs.Fact.{History, Found}
use Rattle.fwd_model.specs.Trace.{TraceEntry}
use Rattle.fwd_model.specs.Settings.{outputs_for, output_name}
use Rattle.fwd_model.specs.RecoveredFile.{recovered_chunk, is_marked_done}
use Rattle.fwd_model.specs.Chunks.{ChunkInfo, chunks_of, content as content_of}
use Rattle.fwd_model.specs.Routes.{route, is_resolved, owed, is_owed, home_of}
use Rattle.fwd_model.specs.RecoveryActions.{recovers}
use Rattle.fwd_theorem_trace.specs.Past.{logged}
use Rattle.fwd_theorem_trace.proofs.Members.{from_filter, in_filter, not_where_off, off_where_not}
use Rattle.fwd_theorem_crash.specs.CrashPoint.{CrashPoint, crash_point, LeadsTo}
use Rattle.fwd_theorem_crash.specs.RecordedOutcomes.{is_recorded}
use Rattle.fwd_theorem_crash.specs.ChunkFile.{RepresentsChunk, IsIntact}
use Rattle.fwd_theorem_crash.specs.Safety.{PendingAreSafe}
use Rattle.fwd_theorem_crash.specs.Recovery.{IsRecovered}
use Rattle.fwd_theorem_crash.proofs.LoadedHistory.{LogsOnlyFiles, gathered_loading, was_read, known, found_chunk, IsFileOf, file_chunk}
use Rattle.fwd_theorem_crash.proofs.LoadingFacts.{AllNoted, Along, LoadedTo, goes_loading}
use Rattle.fwd_theorem_crash.proofs.LoadingSafety.{all_is_read}

there_where : (state : FileState) (bytes : List ℕ) → content state ≡ Some bytes → IsTrue state.there
there_where state bytes stands = by state.there refl stands
  where
    by : (there : Bool) → state.there ≡ there → (if there then Some state.bytes else None) ≡ Some bytes → state.there ≡ true
    by true is some = is
    by false is none = absurd (cc none)

module _ (s : AllSettings) (before : History) (c : ChunkInfo) (image : Files) (h : History) (gathered : LogsOnlyFiles s image h) (all : AllNoted s image h) where
  -- ---- the recovered contents of bytes that represent the chunk

  module _ (number : ℕ) (stream name bytes : List ℕ) (among : Contains h (Found number stream name bytes)) (whole : RepresentsChunk s before c bytes) where
    done_now : (output : ℕ) → is_resolved s h (route number output) ≡ is_marked_done (output_name s output) (Some whole.chunk)
    done_now output = (known s h number stream name bytes (gathered_loading s image h gathered) among).resolved output ∙ ap (is_marked_done (output_name s output)) whole.found

    owed_still : (output : ℕ) → Contains (owed s before c) output → Contains (owed s h (found_chunk number whole.chunk)) output
    owed_still output has =
        let was = from_filter (λ (other : ℕ). not (is_resolved s before (route c.number other))) (outputs_for s c.tag) output has in
        in_filter (λ (other : ℕ). not (is_resolved s h (route number other))) (outputs_for s whole.chunk.tag) output
        (subst (λ (tag : List ℕ). Contains (outputs_for s tag) output) (sym whole.tag) was.0)
        (not_where_off (is_resolved s h (route number output)) (done_now output ∙ by (is_marked_done (output_name s output) (Some whole.chunk)) refl was.0 (off_where_not (is_resolved s before (route c.number output)) was.1)))
      where
        by : (done : Bool) → is_marked_done (output_name s output) (Some whole.chunk) ≡ done → Contains (outputs_for s c.tag) output → is_resolved s before (route c.number output) ≡ false → done ≡ false
        by false is wanted open_still = refl
        by true is wanted open_still = let no : true ≡ false = sym (whole.no_other output wanted is).1 ∙ open_still in absurd (cc no)

    not_owed : (output : ℕ) → Contains (outputs_for s c.tag) output → is_recorded s before (route c.number output) ≡ true → Contains (owed s h (found_chunk number whole.chunk)) output → ⊥
    not_owed output wanted recorded has =
        let now = from_filter (λ (other : ℕ). not (is_resolved s h (route number other))) (outputs_for s whole.chunk.tag) output has in
        let done : is_resolved s h (route number output) ≡ true = done_now output ∙ whole.recorded output wanted recorded in
        let no : true ≡ false = sym done ∙ off_where_not (is_resolved s h (route number output)) now.1 in
        cc no

    again_in : IsRecovered s before h c
    again_in =
        let loading = gathered_loading s image h gathered in
        let file : IsFileOf h number = record { stream = stream; name = name; bytes = bytes; among = among; chunk = whole.chunk; found = whole.found } in
        let is : content_of h number ≡ whole.chunk.content =
        (known s h number stream name bytes loading among).content ∙ ap (λ (o : Option Chunk). option_map_or (λ (chunk : Chunk). chunk.content) o []) whole.found in
        record {
          again = found_chunk number whole.chunk;
          among = file_chunk h number file loading;
          found = refl;
          tag = whole.tag;
          content = elim whole.content [ inl same ↦ inl (is ∙ same) | inr more ↦ inr (is ∙ more) ];
          owed = owed_still;
          recorded = not_owed;
        }

  -- ---- its file was logged with all its bytes

  again_at : (root : List ℕ) (path : Listed) → s.service.path ≡ Some root → IsNamed path → (bytes : List ℕ) → content (image (path_of root path)) ≡ Some bytes → RepresentsChunk s before c bytes → IsRecovered s before h c
  again_at root path under named bytes stands whole =
      let was = all root under path.stream path.name named.stream named.name named.chunk (there_where (image (path_of root path)) bytes stands) in
      let read = was_read s image h was.0 path.stream path.name was.1 gathered was.2 in
      let both : Some read.root ≡ Some root = sym read.under ∙ under in
      let roots : read.root ≡ root = cc both in
      let alls : Some read.all ≡ Some bytes = sym read.stands ∙ ap (λ (r : List ℕ). content (image (path_of r path))) roots ∙ stands in
      let same : read.all ≡ bytes = cc alls in
      let is : was.1 ≡ bytes = read.part ∙ all_is_read read.all whole.chunk (ap recovered_chunk same ∙ whole.found) ∙ same in
      again_in was.0 path.stream path.name bytes (subst (λ (b : List ℕ). Contains h (Found was.0 path.stream path.name b)) is was.2) whole

pub found_again : (s : AllSettings) (m last : CrashPoint) (image : Files) (entries : List TraceEntry) (h : History) (c : ChunkInfo)
    → PendingAreSafe s m → AreDurable image → ((name : List ℕ) → IsPostCrash (m.files name) (content (image name)))
    → Execution (recovers s) entries (Return (Some h)) → Ends LeadsTo (crash_point [] image) entries last
    → Contains (chunks_of (logged m.past)) c → is_owed s (logged m.past) c ≡ true → home_of s c.input ≡ Disk → IsRecovered s (logged m.past) h c
found_again s m last image entries h c safe fresh left way ends has owes home =
    let end = holds_end LeadsTo (Along s image) (LoadedTo s image) (crash_point [] image) (recovers s) (goes_loading s image fresh) entries (Some h) last way ends in
    let kept = safe c has owes home in
    let name : List ℕ = path_of kept.root kept.path in
    by end.2 end.3 kept.root kept.path kept.under kept.named (content (image name)) refl (kept.images (content (image name)) (left name))
  where
    by : LogsOnlyFiles s image h → AllNoted s image h → (root : List ℕ) (path : Listed) → s.service.path ≡ Some root → IsNamed path
        → (bytes : Option (List ℕ)) → content (image (path_of root path)) ≡ bytes → IsIntact s (logged m.past) c bytes → IsRecovered s (logged m.past) h c
    by gathered all root path under named None is none = absurd none
    by gathered all root path under named (Some bytes) is whole = again_at s (logged m.past) c image h gathered all root path under named bytes is whole
