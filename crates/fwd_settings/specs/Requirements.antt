-- What the engine requires of its settings.
use Rattle.std.specs.Prelude.{All, AllPairs, ◌≢◌, ◌≡◌, ℕ, ◌≤◌, IsTrue, List, [], ◌∷◌, ◌++◌, length, Option, Some, None, IsSome, IsUtf8}
use Rattle.std.specs.List.{AllByRecursion}
use Rattle.fwd_base.specs.Limits.{longest_tag, longest_name, most_inputs, most_outputs}
use Rattle.fwd_settings_values.specs.Text.{is_visible_text, is_uri_text, longest_hostname}
use Rattle.fwd_settings.specs.declared.settings_types.AllSettings.{AllSettings}
use Rattle.fwd_settings.specs.declared.settings_types.SharedKey.{SharedKey}
use Rattle.fwd_settings.specs.declared.settings_types.InputSet.{InputSet}
use Rattle.fwd_settings.specs.declared.settings_types.InputKind.{InputKind}
use Rattle.fwd_settings.specs.declared.settings_types.InputKind.TheVariants as input
use Rattle.fwd_settings.specs.declared.settings_types.OutputSet.{OutputSet}
use Rattle.fwd_settings.specs.declared.settings_types.OutputKind.{OutputKind}
use Rattle.fwd_settings.specs.declared.settings_types.OutputKind.TheVariants as output
use Rattle.fwd_settings.specs.Inputs.{input_plugin, input_name}
use Rattle.fwd_settings.specs.Outputs.{output_plugin, output_name}

-- each is named by its plugin and its number among those of the plugin
abbrev pub AreInputsNamed : List InputSet → List InputSet → Type 0
AreInputsNamed before [] = Unit {0}
AreInputsNamed before (set ∷ more) =
    (set.name ≡ input_name before (input_plugin set.kind)) × AreInputsNamed (before ++ set ∷ []) more

abbrev pub AreOutputsNamed : List OutputSet → List OutputSet → Type 0
AreOutputsNamed before [] = Unit {0}
AreOutputsNamed before (set ∷ more) =
    (set.name ≡ output_name before (output_plugin set.kind)) × AreOutputsNamed (before ++ set ∷ []) more

-- a tag has at least one byte, and at most as many as a tag may have; only forward may have none
abbrev pub IsTagText : List ℕ → Type 0
IsTagText tag = (1 ≤ length tag) × (length tag ≤ longest_tag) × IsUtf8 tag

abbrev pub HasTag : InputKind → Option (List ℕ) → Type 0
HasTag kind (Some tag) = IsTagText tag
HasTag (input.Tail paths from_head) None = ⊥
HasTag (input.Tcp host port) None = ⊥
HasTag (input.Forward host port) None = Unit {0}
HasTag input.Stdin None = ⊥

-- what a request is built from: a host of visible characters, and a slash followed by visible characters
abbrev pub CanRequest : OutputKind → Type 0
CanRequest (output.Stdout form) = Unit {0}
CanRequest (output.File folder file form) = Unit {0}
CanRequest (output.Tcp host port form) = Unit {0}
CanRequest (output.Forward host port ack whole_time) = Unit {0}
CanRequest (output.Http host port uri form options) = IsTrue (is_visible_text host) × IsTrue (is_uri_text uri)

-- an output has a name of its own for chunk files: it is short, and no other output's
abbrev pub IsIdText : List ℕ → Type 0
IsIdText id = (1 ≤ length id) × (length id ≤ longest_name) × IsUtf8 id

-- the name of a host that a handshake tells is short
abbrev pub HasShortHost : Option SharedKey → Type 0
HasShortHost None = Unit {0}
HasShortHost (Some shared) = length shared.host ≤ longest_hostname

pub record MeetsRequirements (settings : AllSettings) : Type 0 where
  pub few_inputs : length settings.inputs ≤ most_inputs
  pub few_outputs : length settings.outputs ≤ most_outputs
  pub inputs_named : AreInputsNamed [] settings.inputs
  pub outputs_named : AreOutputsNamed [] settings.outputs
  pub ids : All (λ set. IsIdText set.id) settings.outputs
  pub ids_differ : AllPairs (λ one other. one.id ≢ other.id) settings.outputs
  pub requests : AllByRecursion (λ set. CanRequest set.kind) settings.outputs
  pub tagged : AllByRecursion (λ set. HasTag set.kind set.tag) settings.inputs
  pub shared_inputs : AllByRecursion (λ set. HasShortHost set.shared) settings.inputs
  pub shared_outputs : AllByRecursion (λ set. HasShortHost set.shared) settings.outputs
  pub base : 1 ≤ settings.service.base
  pub stored : AllByRecursion (λ set. IsTrue set.stored → IsSome settings.service.path) settings.inputs
