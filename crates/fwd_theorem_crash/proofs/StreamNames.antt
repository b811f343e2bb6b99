-- The folders of inputs have valid file names, and a new chunk has a path of its own.
use Rattle.std.proofs.Common.{◌≡◌, ◌≢◌, ◌⊎◌, inl, inr, ℕ, zero, suc, ◌+◌, ◌%◌, ◌^◌, ◌<◌, ◌≤◌, ◌&&◌, not, Bool, true, List, [], ◌∷◌, ◌++◌, append_assoc, length, length-append, get_or, unwrap_or, All, Option, Some, None, refl, sym, ◌∙◌, ap, subst, arith, lit≤}
use Rattle.std.specs.Prelude.{◌==◌, IsAscii, codes, count_by, decimal, nat_lt, slice_get}
use Rattle.std.specs.List.{AllByRecursion, list_all}
use Rattle.std.specs.Option.{option_map_or}
use Rattle.std.proofs.lemmas.Bool.{and_parts, ltb-true, eqb-false}
use Rattle.std.proofs.lemmas.Fmt.{decimal_by_steps}
use Rattle.std.proofs.lemmas.List.Elements.{All-nil, All-cons, All-head, All-tail, All-append, All-contains, All-from_recursion}
use Rattle.std.proofs.lemmas.List.Sums.{count_by-le-length}
use Rattle.std.proofs.lemmas.Option.{slice_get_cases}
use Rattle.std.proofs.lemmas.Str.{IsUtf8-from_ascii}
use Rattle.fwd_base.specs.Limits.{numbers_end, most_inputs}
use Rattle.fwd_outside.specs.Disk.{IsFileName}
use Rattle.fwd_chunk.specs.Name.{file_name}
use Rattle.fwd_backlog.specs.declared.listed_file.Listed.{Listed}
use Rattle.fwd_backlog.specs.Serial.{serial_number}
use Rattle.fwd_backlog.specs.Listing.{path_of, IsNamed}
use Rattle.fwd_settings.specs.declared.settings_types.AllSettings.{AllSettings}
use Rattle.fwd_settings.specs.declared.settings_types.InputSet.{InputSet}
use Rattle.fwd_settings.specs.declared.settings_types.InputKind.{InputKind}
use Rattle.fwd_settings.specs.declared.settings_types.InputKind.TheVariants as input
use Rattle.fwd_settings_schema.specs.Keys.{name_of_input}
use Rattle.fwd_settings.specs.Inputs.{input_plugin, is_input_of, instance}
use Rattle.fwd_settings.specs.Requirements.{AreInputsNamed, MeetsRequirements}
use Rattle.fwd_model.specs.Settings.{input_name}
use Rattle.fwd_model.specs.ChunkStorage.{name_for}
use Rattle.fwd_theorem_trace.proofs.Members.{off_where_not}
use Rattle.fwd_backlog.proofs.NumberNames.{numbered, serial_numbered, chunk_numbered, name_numbered}

-- ---- bytes of names

abbrev is_fine : ℕ → Bool
is_fine byte = nat_lt byte 128 && not (byte == 47)

abbrev IsFine : ℕ → Type 0
IsFine byte = (byte < 128) × (byte ≢ 47)

fine_byte : (byte : ℕ) → is_fine byte ≡ true → IsFine byte
fine_byte byte is = let parts = and_parts (nat_lt byte 128) (not (byte == 47)) is in (ltb-true byte 128 parts.0, eqb-false byte 47 (off_where_not (byte == 47) parts.1))

fine_text : (bytes : List ℕ) → list_all is_fine bytes ≡ true → All IsFine bytes
fine_text [] is = All-nil IsFine
fine_text (byte ∷ bytes) is = let parts = and_parts (is_fine byte) (list_all is_fine bytes) is in All-cons IsFine byte bytes (fine_byte byte parts.0) (fine_text bytes parts.1)

one_digit : (digit : ℕ) → digit < 10 → All IsFine ((48 + digit) ∷ [])
one_digit digit small = All-cons IsFine (48 + digit) [] (omega (arith, small), λ is. omega (arith, is)) (All-nil IsFine)

fine_decimal : (number : ℕ) → number < 2 ^ 64 → All IsFine (decimal number)
fine_decimal number small =
    decimal_by_steps (λ (n : ℕ) (digits : List ℕ). All IsFine digits) (λ n less. one_digit n less)
    (λ n digits more fine. All-append IsFine digits ((48 + n % 10) ∷ []) fine (one_digit (n % 10) (omega arith))) number small

fine_ascii : (bytes : List ℕ) → All IsFine bytes → IsAscii bytes
fine_ascii [] fine i = lit≤ tt
fine_ascii (byte ∷ bytes) fine zero = (All-head IsFine byte bytes fine).0
fine_ascii (byte ∷ bytes) fine (suc i) = fine_ascii bytes (All-tail IsFine byte bytes fine) i

fine_name : (name : List ℕ) → All IsFine name → IsFileName name
fine_name name fine = record { text = IsUtf8-from_ascii name (fine_ascii name fine); plain = λ inside. (All-contains IsFine name 47 fine inside).1 refl }

-- ---- names of inputs

fine_plugin : (kind : InputKind) → All IsFine (name_of_input (input_plugin kind))
fine_plugin (input.Tail paths from_head) = fine_text (codes "tail") refl
fine_plugin (input.Tcp host port) = fine_text (codes "tcp") refl
fine_plugin (input.Forward host port) = fine_text (codes "forward") refl
fine_plugin input.Stdin = fine_text (codes "stdin") refl

fine_instance : (kind : InputKind) (number : ℕ) → number < 2 ^ 64 → All IsFine (instance (name_of_input (input_plugin kind)) number)
fine_instance kind number small =
    All-append IsFine (name_of_input (input_plugin kind) ++ codes ".") (decimal number) (All-append IsFine (name_of_input (input_plugin kind)) (codes ".") (fine_plugin kind) (fine_text (codes ".") refl)) (fine_decimal number small)

fine_inputs : (before sets : List InputSet) → AreInputsNamed before sets → length before + length sets ≤ most_inputs → AllByRecursion (λ (set : InputSet). All IsFine set.name) sets
fine_inputs before [] named few = tt
fine_inputs before (set ∷ sets) named few =
    let plugin = input_plugin set.kind in
    let count = count_by-le-length (is_input_of plugin) before in (
      subst (All IsFine) (sym named.0) (fine_instance set.kind (count_by (is_input_of plugin) before) (omega (arith, few, count))),
      fine_inputs (before ++ set ∷ []) sets named.1 (omega (arith, few, length-append before (set ∷ []))),
    )

fine_at : (sets : List InputSet) (input : ℕ) → AllByRecursion (λ (set : InputSet). All IsFine set.name) sets → All IsFine (option_map_or (λ (set : InputSet). set.name) (slice_get sets input) [])
fine_at sets input fine = by (slice_get_cases sets input).1
  where
    by : ((set : InputSet) × (input < length sets) × (slice_get sets input ≡ Some set) × (get_or sets input set ≡ set)) ⊎ ((length sets ≤ input) × (slice_get sets input ≡ None))
        → All IsFine (option_map_or (λ (set : InputSet). set.name) (slice_get sets input) [])
    by (inl some) =
        let here = All-from_recursion (λ (set : InputSet). All IsFine set.name) sets fine input some.0 some.1 in
        subst (λ (o : Option InputSet). All IsFine (option_map_or (λ (set : InputSet). set.name) o [])) (sym some.2) (subst (λ (set : InputSet). All IsFine set.name) some.3 here)
    by (inr none) = subst (λ (o : Option InputSet). All IsFine (option_map_or (λ (set : InputSet). set.name) o [])) (sym none.1) (All-nil IsFine)

module _ (s : AllSettings) (sound : MeetsRequirements s) where
  pub stream_is_name : (input : ℕ) → IsFileName (input_name s input)
  stream_is_name input = fine_name (input_name s input) (fine_at s.inputs input (fine_inputs [] s.inputs sound.inputs_named (omega (arith, sound.few_inputs))))

  -- a new chunk of a number has a name of its own under the root, which determines the number
  pub new_path : (root : List ℕ) → s.service.path ≡ Some root → (input number : ℕ) → number < numbers_end
      → (path : Listed) × IsNamed path × (name_for s input number ≡ path_of root path) × (serial_number path.name ≡ number)
  new_path root under input number small =
      let path : Listed = record { name = numbered number; stream = input_name s input } in
      let same : path_of root path ≡ file_name root (input_name s input) number = simp append_assoc refl in
      let named : IsNamed path = record { stream = stream_is_name input; name = name_numbered number; chunk = chunk_numbered number } in
      (path, named, ap (λ (o : Option (List ℕ)). file_name (unwrap_or o []) (input_name s input) number) under ∙ sym same, serial_numbered number small)
