-- The contents of one file.
use Rattle.std.proofs.Common.{◌≡◌, ◌≢◌, inl, inr, ℕ, ◌+◌, ◌<◌, ◌≤◌, ◌^◌, ◌==◌, true, false, not, List, [], ◌∷◌, length, take, Option, Some, Ok, refl, sym, ap, subst, ◌∙◌, arith, length-drop}
use Rattle.std.specs.Prelude.{Contains, IsUtf8}
use Rattle.std.specs.Str.{is_utf8}
use Rattle.std.proofs.lemmas.Bool.{ne_eqb}
use Rattle.std.proofs.lemmas.Str.{is_utf8-from_IsUtf8}
use Rattle.fwd_base.specs.Limits.{longest_tag}
use Rattle.fwd_event.specs.declared.event.Event.{Event}
use Rattle.fwd_event.specs.Event.{AreEvents}
use Rattle.fwd_outside.specs.DiskStates.{Files}
use Rattle.fwd_outside.specs.PostCrash.{AllPostCrash}
use Rattle.fwd_outside.specs.File.{IsPostCrash}
use Rattle.fwd_outside.proofs.KeepsBytes.{whole_post_crash}
use Rattle.fwd_chunk.specs.declared.append.ChunkHead.{ChunkHead}
use Rattle.fwd_chunk.specs.Layout.{part, meta_length, committed_length, HasParts, NamedOutput, named_meta_bytes, new_meta, unrecorded, AreOutputs}
use Rattle.fwd_chunk.specs.Append.{DurableIn}
use Rattle.fwd_chunk.specs.Outcome.{with_outcome, HasOutputs, ImageNamesOutputs}
use Rattle.fwd_chunk.proofs.FileParts.{length-part}
use Rattle.fwd_chunk.proofs.OutcomeByte.{same_names}
use Rattle.fwd_chunk.specs.declared.chunk.Chunk.{Chunk}
use Rattle.fwd_chunk.specs.declared.metadata.Metadata.{Metadata}
use Rattle.fwd_chunk.specs.Metadata.{names_of, done_of, said_named, with_tag, as_metadata, parse_metadata}
use Rattle.fwd_chunk.specs.Format.{mark_of, is_marked, body_of, HasContent}
use Rattle.fwd_chunk.proofs.HeaderFacts.{whole_header, long_enough}
use Rattle.fwd_chunk.proofs.NamedMetadata.{named_were, named_back}
use Rattle.fwd_chunk.proofs.MarkedFile.{stands}
use Rattle.fwd_model.specs.Notes.{is_empty}
use Rattle.fwd_model.specs.RecoveredFile.{recovered_chunk, is_marked_done}
use Rattle.fwd_theorem_crash.proofs.RecoveredBytes.{read_of, found_of, headed_was, named_was}
use Rattle.fwd_theorem_crash.proofs.OutcomeMetadata.{names_unrecorded, done_unrecorded, same_named, is_among, others_stay, one_is_done}

-- ---- files that name outputs

-- what is read from such a file: this tag, these outputs, this content
pub record IsChunkOf (tag : List ℕ) (outputs : List NamedOutput) (content bytes : List ℕ) : Type 0 where
  pub chunk : Chunk
  pub found : recovered_chunk bytes ≡ Some chunk
  pub tag_is : chunk.tag ≡ tag
  pub content_is : chunk.content ≡ content
  pub outputs_are : chunk.outputs ≡ names_of outputs
  pub done_are : chunk.done ≡ done_of outputs

-- what can be read from such a file
pub record AreReadable (tag : List ℕ) (outputs : List NamedOutput) (content : List ℕ) : Type 0 where
  pub short : length tag < 2 ^ 16
  pub text : is_utf8 tag ≡ true
  pub names : AreOutputs (names_of outputs)
  pub events : List Event
  pub are : AreEvents events content
  pub some : (length events == 0) ≡ false

pub chunk_of_parts : (tag : List ℕ) (outputs : List NamedOutput) (content bytes : List ℕ) → HasParts 2 bytes (named_meta_bytes tag outputs) content → AreReadable tag outputs content → IsChunkOf tag outputs content bytes
chunk_of_parts tag outputs content bytes parts readable =
    let says = ap said_named (named_back tag outputs readable.short readable.names) in
    let read = stands 2 bytes (named_meta_bytes tag outputs) content (as_metadata (with_tag tag outputs)) readable.events parts says readable.text readable.are in
    record {
      chunk = read.0;
      found = found_of bytes read.0 read.1 (ap (λ (n : ℕ). n == 0) read.8 ∙ readable.some);
      tag_is = read.4;
      content_is = read.7;
      outputs_are = read.5;
      done_are = read.6;
    }

marked_two : (bytes : List ℕ) → mark_of bytes ≡ 2 → is_marked bytes ≡ true
marked_two bytes is = rw is refl

-- the events of a marked file are those of the committed bytes
events_were : (bytes : List ℕ) (events : List Event) (n : ℕ) → is_marked bytes ≡ true → HasContent bytes events n → (n ≡ committed_length bytes) × AreEvents events (take (committed_length bytes) (body_of bytes))
events_were bytes events n marked (inl x) = (x.1, subst (λ (k : ℕ). AreEvents events (take k (body_of bytes))) x.1 x.2)
events_were bytes events n marked (inr x) = let no : false ≡ true = sym (ap not marked) ∙ x.0 in absurd (cc no)

-- what was read from a file that names outputs
pub record WasRead (tag : List ℕ) (outputs : List NamedOutput) (content : List ℕ) (chunk : Chunk) : Type 0 where
  pub readable : AreReadable tag outputs content
  pub tag_is : chunk.tag ≡ tag
  pub content_is : chunk.content ≡ content
  pub done_are : chunk.done ≡ done_of outputs

pub parts_were : (tag : List ℕ) (outputs : List NamedOutput) (content bytes : List ℕ) (chunk : Chunk) → HasParts 2 bytes (named_meta_bytes tag outputs) content → recovered_chunk bytes ≡ Some chunk → WasRead tag outputs content chunk
parts_were tag outputs content bytes chunk parts found =
    let read = read_of bytes chunk found in
    let metadata = read.stand.0 in
    let headed = headed_was bytes metadata read.stand.3 in
    let says : parse_metadata 2 (named_meta_bytes tag outputs) ≡ Ok metadata = ap (parse_metadata 2) parts.meta_is ∙ ap (λ (k : ℕ). parse_metadata k (part bytes 24 (meta_length bytes))) (sym parts.mark_is) ∙ headed.says in
    let named = named_was (named_meta_bytes tag outputs) metadata says in
    let were = named_were (named_meta_bytes tag outputs) named.0 named.1 in
    let same = same_named tag named.0.tag outputs named.0.outputs were.1 were.2 were.0 in
    let is : metadata ≡ as_metadata (with_tag tag outputs) = sym named.2 ∙ (λ i. as_metadata (with_tag (sym same.0 i) (sym same.1 i))) in
    let content_were = events_were bytes read.stand.1 read.stand.2 (marked_two bytes parts.mark_is) read.stand.4 in
    record {
      readable = record {
        short = subst (λ (t : List ℕ). length t < 2 ^ 16) (sym same.0) were.1;
        text = ap (λ (x : Metadata). is_utf8 x.tag) (sym is) ∙ headed.text;
        names = subst (λ (l : List NamedOutput). AreOutputs (names_of l)) (sym same.1) were.2;
        events = read.stand.1;
        are = subst (AreEvents read.stand.1) (sym parts.content_is) content_were.1;
        some = ap (λ (x : Chunk). x.events == 0) (sym read.stand.5) ∙ read.some;
      };
      tag_is = ap (λ (x : Chunk). x.tag) read.stand.5 ∙ ap (λ (x : Metadata). x.tag) is;
      content_is = ap (λ (x : Chunk). x.content) read.stand.5 ∙ ap (λ (n : ℕ). take n (body_of bytes)) content_were.0 ∙ sym parts.content_is;
      done_are = ap (λ (x : Chunk). x.done) read.stand.5 ∙ ap (λ (x : Metadata). x.done) is;
    }

-- ---- a new chunk's file

-- the bytes are read as a chunk without recorded outcomes
pub record IsNewChunk (of batch bytes : List ℕ) : Type 0 where
  pub chunk : Chunk
  pub found : recovered_chunk bytes ≡ Some chunk
  pub tag : chunk.tag ≡ of
  pub content : chunk.content ≡ batch
  pub none : (name : List ℕ) → is_marked_done name (Some chunk) ≡ false

not_none : (events : List Event) → is_empty events ≡ false → (length events == 0) ≡ false
not_none [] some = absurd (cc some)
not_none (e ∷ events) some = ne_eqb (length (e ∷ events)) 0 (λ is. omega (arith, is))

pub new_holds : (tag : List ℕ) (names : List (List ℕ)) (events : List Event) (content bytes : List ℕ) → IsUtf8 tag → length tag ≤ longest_tag → AreOutputs names → AreEvents events content → is_empty events ≡ false
    → HasParts 2 bytes (new_meta tag names) content → IsNewChunk tag content bytes
new_holds tag names events content bytes text short outputs are some parts =
    let read = chunk_of_parts tag (unrecorded names) content bytes parts (record {
      short = omega (arith, short);
      text = is_utf8-from_IsUtf8 tag text;
      names = subst AreOutputs (sym (names_unrecorded names)) outputs;
      events = events;
      are = are;
      some = not_none events some;
    }) in
    record {
      chunk = read.chunk;
      found = read.found;
      tag = read.tag_is;
      content = read.content_is;
      none = λ name. ap (is_among name) (read.done_are ∙ done_unrecorded names);
    }

pub new_named : (head : ChunkHead) (tag : List ℕ) (names : List (List ℕ)) (content bytes : List ℕ) → HasParts 2 bytes (new_meta tag names) content → head.meta ≡ length (new_meta tag names) → head.outputs ≡ names
    → HasOutputs head tag (unrecorded names) content bytes
new_named head tag names content bytes parts long outputs = record { parts = parts; long = long; names = outputs ∙ sym (names_unrecorded names) }

-- ---- recording an outcome

-- the bytes are read as a chunk, except for the outcome of one output
pub record IsResolvedAs (output : List ℕ) (outputs : List NamedOutput) (x : ℕ) (chunk : Chunk) (now : List ℕ) : Type 0 where
  pub new : Chunk
  pub found : recovered_chunk now ≡ Some new
  pub tag : new.tag ≡ chunk.tag
  pub content : new.content ≡ chunk.content
  pub others : (name : List ℕ) → name ≢ output → is_marked_done name (Some new) ≡ is_marked_done name (Some chunk)
  pub done : x ≡ 68 → Contains (names_of outputs) output → is_marked_done output (Some new) ≡ true

pub settled_holds : (head : ChunkHead) (tag : List ℕ) (outputs : List NamedOutput) (content was now output : List ℕ) (x : ℕ) (chunk : Chunk)
    → HasOutputs head tag outputs content was → recovered_chunk was ≡ Some chunk → HasOutputs head tag (with_outcome output x outputs) content now → IsResolvedAs output outputs x chunk now
settled_holds head tag outputs content was now output x chunk before found after =
    let were = parts_were tag outputs content was chunk before.parts found in
    let readable = were.readable in
    let read = chunk_of_parts tag (with_outcome output x outputs) content now after.parts (record {
      short = readable.short;
      text = readable.text;
      names = subst AreOutputs (sym (same_names output x outputs)) readable.names;
      events = readable.events;
      are = readable.are;
      some = readable.some;
    }) in
    record {
      new = read.chunk;
      found = read.found;
      tag = read.tag_is ∙ sym were.tag_is;
      content = read.content_is ∙ sym were.content_is;
      others = λ name ne. ap (is_among name) read.done_are ∙ others_stay output name x outputs ne ∙ ap (is_among name) (sym were.done_are);
      done = λ is has.
          ap (is_among output) read.done_are ∙ ap (λ (k : ℕ). is_among output (done_of (with_outcome output k outputs))) is ∙ one_is_done output outputs has;
    }

-- ---- a recovered file

-- the length of its metadata, and the position of its content
pub found_meta : (bytes : List ℕ) (chunk : Chunk) → recovered_chunk bytes ≡ Some chunk → chunk.meta ≡ meta_length bytes
found_meta bytes chunk found = ap (λ (c : Chunk). c.meta) (read_of bytes chunk found).stand.5

pub found_content : (bytes : List ℕ) (chunk : Chunk) → recovered_chunk bytes ≡ Some chunk → (n : ℕ) × (chunk.content ≡ part bytes (24 + meta_length bytes) n)
found_content bytes chunk found = let read = read_of bytes chunk found in (read.stand.2, ap (λ (c : Chunk). c.content) read.stand.5)

pub found_named : (head : ChunkHead) (chunk : Chunk) (bytes : List ℕ) → recovered_chunk bytes ≡ Some chunk → head.meta ≡ chunk.meta → head.outputs ≡ chunk.outputs → head.mark ≡ chunk.mark → head.mark ≡ 2 → ImageNamesOutputs head (Some bytes)
found_named head chunk bytes found long outputs mark two =
    let read = read_of bytes chunk found in
    let metadata = read.stand.0 in
    let headed = headed_was bytes metadata read.stand.3 in
    let mark_is : mark_of bytes ≡ 2 = ap (λ (c : Chunk). c.mark) (sym read.stand.5) ∙ sym mark ∙ two in
    let meta = part bytes 24 (meta_length bytes) in
    let named = named_was meta metadata (ap (λ (k : ℕ). parse_metadata k meta) (sym mark_is) ∙ headed.says) in
    let were = named_were meta named.0 named.1 in
    let header = whole_header bytes metadata read.stand.3 in
    let enough = long_enough bytes metadata read.stand.3 (marked_two bytes mark_is) in (
      named.0.tag,
      named.0.outputs,
      part bytes (24 + meta_length bytes) (committed_length bytes),
      record {
        parts = record {
          short = header.0;
          id = headed.id;
          id_end = headed.id_end;
          marked = inr refl;
          mark_is = mark_is;
          fits = omega (arith, header.1, enough, length-drop (24 + meta_length bytes) bytes);
          meta_is = sym were.0;
          content_is = refl;
        };
        long = long ∙ ap (λ (c : Chunk). c.meta) read.stand.5 ∙ sym (length-part bytes 24 (meta_length bytes) header.1) ∙ ap (λ (l : List ℕ). length l) were.0;
        names = outputs ∙ ap (λ (c : Chunk). c.outputs) read.stand.5 ∙ ap (λ (m : Metadata). m.outputs) (sym named.2);
      },
    )

-- ---- a file without unsynced state

pub settled_image : (head : ChunkHead) (meta content : List ℕ) (files : Files) → DurableIn head meta content files
    → AllPostCrash head.name (λ (image : Option (List ℕ)). (bytes : List ℕ) × (image ≡ Some bytes) × HasParts head.mark bytes meta content × (head.meta ≡ length meta) × (length content ≡ head.size)) files
settled_image head meta content files settled image is =
    let bytes = settled.bytes in
    let parts = settled.parts in
    let is_whole = whole_post_crash bytes image (subst (λ s. IsPostCrash s image) settled.state is) in
    let long : length meta ≡ meta_length bytes = ap (λ (l : List ℕ). length l) parts.meta_is ∙ length-part bytes 24 (meta_length bytes) (omega (arith, parts.fits)) in
    let size : length content ≡ committed_length bytes = ap (λ (l : List ℕ). length l) parts.content_is ∙ length-part bytes (24 + meta_length bytes) (committed_length bytes) parts.fits in
    (bytes, is_whole, parts, settled.meta_is ∙ sym long, size ∙ sym settled.size)
