-- The disk of the post-crash states, file by file.
use Rattle.std.proofs.Common.{◌≡◌, ℕ, Bool, true, false, cond, if◌then◌else◌, Option, Some, None, unwrap_or, List, [], ◌∷◌, ◌++◌, refl, sym, ◌∙◌, ap}
use Rattle.std.specs.Prelude.{Vec}
use Rattle.std.specs.Cmp.Lexicographic.{nat_list_eq_equiv}
use Rattle.std.specs.List.{AllByRecursion, IsDistinct}
use Rattle.std.specs.Map.{lookup, keys_of, KeepsOthers}
use Rattle.std.specs.Str.{bytes_eq}
use Rattle.std.proofs.lemmas.Slice.Eq.{bytes_eq-Decides}
use Rattle.std.proofs.lemmas.List.{append-nil, append_assoc}
use Rattle.fwd_outside.specs.File.{FileState, content, absent, whole}
use Rattle.fwd_disk_mem.specs.FileTable.{MemFile}
use Rattle.fwd_disk_mem.specs.declared.image.ImageFile.{ImageFile}
use Rattle.fwd_disk_mem.specs.declared.entry.MemEntry.{MemEntry}
use Rattle.fwd_disk_mem.specs.declared.entry.MemEntry.TheVariants.{Place, WriteAt, Sync, Remove, Read, List as Listed, Preset, FailAt}
use Rattle.fwd_disk_mem.specs.Entry.{is_on, named_by, run, files_of}
use Rattle.fwd_disk_mem.specs.Images.{acted_file, file_settings, preset_of, presets_of, no_file, file_at}
use Rattle.fwd_disk_mem.proofs.Lookup.{same_key, named, finds}

-- a call that is about no file changes none
acts_on : (pick : ℕ) (call : MemEntry) (n : List ℕ) (file : ImageFile) → (if bytes_eq (named_by call) n then acted_file pick file call else file) ≡ (if is_on call n then acted_file pick file call else file)
acts_on pick (Place _ _ _) n file = refl
acts_on pick (WriteAt _ _ _ _) n file = refl
acts_on pick (Sync _ _) n file = refl
acts_on pick (Remove _ _) n file = refl
acts_on pick (Read _ _ _ _) n file = refl
acts_on pick (Listed _ _) n file = refl
acts_on pick (Preset _ _) n file = refl
acts_on pick (FailAt number) n file = by (bytes_eq [] n)
  where
    by : (b : Bool) → (if b then file else file) ≡ file
    by true = refl
    by false = refl

-- a post-crash state, or the earlier one
abbrev or_was : Option (List ℕ) → Option (List ℕ) → Option (List ℕ)
or_was None was = was
or_was (Some bytes) was = Some bytes

abbrev over : Option ImageFile → Option (List ℕ) → Option (List ℕ)
over None was = was
over (Some file) was = or_was file.image was

more_presets : (name : List ℕ) (image : Option (List ℕ)) (calls : List MemEntry) → (files : List MemFile) × (calls ≡ file_settings files) → (files : List MemFile) × (preset_of name image ++ calls ≡ file_settings files)
more_presets name None calls are = are
more_presets name (Some bytes) calls are = let file : MemFile = record { name = name; bytes = bytes } in (file ∷ are.0, ap (λ (l : List MemEntry). Preset name bytes ∷ l) are.1)

module _ {Z : Type 0} where
  -- the file of one name is this, and the others are unchanged
  pub acted_at : (pick : ℕ) (call : MemEntry) (old mid new : List (Vec ℕ Z × ImageFile)) (name : List ℕ) (file : ImageFile) → name ≡ named_by call → file ≡ acted_file pick (file_at old name) call
      → ((n : List ℕ) → bytes_eq name n ≡ false → file_at mid n ≡ file_at old n) → lookup (named name) new ≡ Some file → KeepsOthers same_key (named name) mid new
      → (n : List ℕ) → file_at new n ≡ (if is_on call n then acted_file pick (file_at old n) call else file_at old n)
  acted_at pick call old mid new name file is_name is_file others is keeps n =
      ap (λ (f : Option ImageFile). unwrap_or f no_file) (finds mid new name (Some file) is keeps n) ∙ by (bytes_eq name n) refl
      ∙ ap (λ (m : List ℕ). if bytes_eq m n then acted_file pick (file_at old n) call else file_at old n) is_name ∙ acts_on pick call n (file_at old n)
    where
      by : (b : Bool) → bytes_eq name n ≡ b → unwrap_or (if b then Some file else lookup (named n) mid) no_file ≡ (if b then acted_file pick (file_at old n) call else file_at old n)
      by true e = is_file ∙ ap (λ (m : List ℕ). acted_file pick (file_at old m) call) ((bytes_eq-Decides name n).0 e)
      by false e = others n e

  pub other_file : (old new : List (Vec ℕ Z × ImageFile)) (name : List ℕ) (file : Option ImageFile) → lookup (named name) new ≡ file → KeepsOthers same_key (named name) old new
      → (n : List ℕ) → bytes_eq name n ≡ false → file_at new n ≡ file_at old n
  other_file old new name file is keeps n other =
      ap (λ (f : Option ImageFile). unwrap_or f no_file) (finds old new name file is keeps n ∙ ap (λ (b : Bool). if b then file else lookup (named n) old) other)

  -- one more file
  pub presets_of-push : (entries : List (Vec ℕ Z × ImageFile)) (entry : Vec ℕ Z × ImageFile) → presets_of (entries ++ entry ∷ []) ≡ presets_of entries ++ preset_of entry.0.items entry.1.image
  presets_of-push [] entry = append-nil (preset_of entry.0.items entry.1.image)
  presets_of-push (first ∷ entries) entry =
      ap (λ (l : List MemEntry). preset_of first.0.items first.1.image ++ l) (presets_of-push entries entry)
      ∙ sym (append_assoc (preset_of first.0.items first.1.image) (presets_of entries) (preset_of entry.0.items entry.1.image))

  pub are_presets : (entries : List (Vec ℕ Z × ImageFile)) → (files : List MemFile) × (presets_of entries ≡ file_settings files)
  are_presets [] = ([], refl)
  are_presets (entry ∷ entries) = more_presets entry.0.items entry.1.image (presets_of entries) (are_presets entries)

  no_other : (key : Vec ℕ Z) (entries : List (Vec ℕ Z × ImageFile)) → AllByRecursion (λ (k : Vec ℕ Z). same_key key k ≡ false) (keys_of entries) → lookup (named key.items) entries ≡ None
  no_other key [] apart = refl
  no_other key (entry ∷ entries) apart = ap (λ (b : Bool). cond b (Some entry.1) (lookup (named key.items) entries)) apart.0 ∙ no_other key entries apart.1

  -- what reads return after settings of files with different names
  presets_read : (entries : List (Vec ℕ Z × ImageFile)) → IsDistinct same_key (keys_of entries) → (n : List ℕ) (s : FileState) → content (run n s (presets_of entries)) ≡ over (lookup (named n) entries) (content s)
  unfolding IsDistinct
  presets_read [] distinct n s = refl
  presets_read (entry ∷ entries) distinct n s =
      each entry.1.image (bytes_eq key.items n) refl (presets_read entries distinct.1 n) ∙ both (bytes_eq key.items n) (bytes_eq n key.items) (nat_list_eq_equiv.symm key.items n)
    where
      key : Vec ℕ Z
      key = entry.0

      none : bytes_eq key.items n ≡ true → lookup (named n) entries ≡ None
      none e = ap (λ (m : List ℕ). lookup (named m) entries) (sym ((bytes_eq-Decides key.items n).0 e)) ∙ no_other key entries distinct.0

      each : (image : Option (List ℕ)) (b : Bool) → bytes_eq key.items n ≡ b
          → ((s : FileState) → content (run n s (presets_of entries)) ≡ over (lookup (named n) entries) (content s))
          → content (run n s (preset_of key.items image ++ presets_of entries)) ≡ (if b then or_was image (content s) else over (lookup (named n) entries) (content s))
      each None true e rest = rest s ∙ ap (λ (f : Option ImageFile). over f (content s)) (none e)
      each None false e rest = rest s
      each (Some bytes) true e rest =
          ap (λ (b : Bool). content (run n (if b then whole bytes else s) (presets_of entries))) e ∙ rest (whole bytes) ∙ ap (λ (f : Option ImageFile). over f (Some bytes)) (none e)
      each (Some bytes) false e rest = ap (λ (b : Bool). content (run n (if b then whole bytes else s) (presets_of entries))) e ∙ rest s

      both : (b c : Bool) → b ≡ c → (if b then or_was entry.1.image (content s) else over (lookup (named n) entries) (content s)) ≡ over (cond c (Some entry.1) (lookup (named n) entries)) (content s)
      both true true e = refl
      both false false e = refl
      both true false e = absurd (cc e)
      both false true e = absurd (cc e)

  pub images_read : (entries : List (Vec ℕ Z × ImageFile)) → IsDistinct same_key (keys_of entries) → (n : List ℕ) → content (files_of (presets_of entries) n) ≡ (file_at entries n).image
  images_read entries distinct n = presets_read entries distinct n absent ∙ last (lookup (named n) entries)
    where
      its : (image : Option (List ℕ)) → or_was image None ≡ image
      its None = refl
      its (Some bytes) = refl

      last : (file : Option ImageFile) → over file None ≡ (unwrap_or file no_file).image
      last None = refl
      last (Some file) = its file.image
