-- Where the words and the files call for `Read`, a file is not there: each step refuses with `Read` only so, where what follows does. And no step finds a list.
use Rattle.std.proofs.Common.{◌≡◌, ◌∙◌, refl, sym, subst, arith, ℕ, Bool, List, [], ◌∷◌, ◌++◌, map, codes, Some, None, inl, inr}
use Rattle.std.specs.Prelude.{⊤, Option, Result, Ok, Err}
use Rattle.outside.specs.Outside.{File, Rose}
use Rattle.outside.specs.declared.files.FileError.{FileError}
use Rattle.outside.specs.declared.files.FileError.TheVariants as read_errors
use Rattle.described.specs.declared.loaded.Loaded.{Loaded}
use Rattle.outside.specs.declared.status.Status.{Status}
use Rattle.outside.specs.declared.status.Status.TheVariants as statuses
use Rattle.fdt_tree.specs.Tree.{Tree}
use Rattle.stage2_walk.specs.Files.{image_of}
use Rattle.domain_plan.specs.declared.planned.GuestPlan.{GuestPlan}
use Rattle.ib_config.specs.Settings.{config_of}
use Rattle.ib_config.specs.declared.settings.Settings.{Settings}
use Rattle.ib_placement.specs.Placement.{places_of}
use Rattle.ib_placement.specs.declared.places.PlaceFault.{PlaceFault}
use Rattle.ib_placement.specs.declared.places.PlaceFault.TheVariants as place_faults
use Rattle.ib_script.specs.Script.{made_of}
use Rattle.ib_script.specs.declared.command.Command.{Command}
use Rattle.ib_script.specs.declared.make.LoadKind.{LoadKind}
use Rattle.ib_script.specs.declared.make.MakeFault.{MakeFault}
use Rattle.ib_script.specs.declared.make.MakeFault.TheVariants as make_faults
use Rattle.script_run.specs.Effect.{tree_load_of, tree_effect}
use Rattle.script_run.specs.Reading.{commands_of}
use Rattle.domain_plan.specs.Descriptions.{Description}
use Rattle.domain_plan.specs.TreePlans.{plan_of}
use Rattle.run_steps.specs.Messages.{file_message}
use Rattle.run_steps.specs.Names.{joined}
use Rattle.run_steps.specs.Endings.{Outcome, Refuses, Builds, Finds, Fails}
use Rattle.run_steps.specs.Steps.{IsRefusal, IsWriting, OnResult, OnOption, IsReading, IsReadRefusal, AfterReading, IsSize, OrFails, AfterSize, AfterSizes, AfterEach}
use Rattle.tree_files.specs.Trees.{FlatTree, AfterTree, AfterTreeFile, tree_limit}
use Rattle.run_steps.proofs.Step.{Next, hand_on}
use Rattle.dom0less_words.specs.Words.{Word, Source, Config, Replay, Ready, Asked, Build, Check, Script, Show, Generate}
use Rattle.dom0less_words.specs.Settings.{settings}
use Rattle.build_sources.specs.Configs.{config_limit, IsConfigRefusal, IsPlaceRefusal, IsMakeRefusal, AfterConfig, AfterScript, AfterHost, AfterMade, facts_of, host_file, other_files}
use Rattle.build_sources.specs.Sources.{Stand, script_limit, IsLineRefusal, IsStepRefusal, AfterScriptFile, AfterRun, loads_named, known_size, AfterKnownSize, AfterLoadSize, AfterLoadSizes, config_stand, replay_stand, ready_stand, AfterSource, folder_of}
use Rattle.build_sources.specs.Scripts.{script_name}
use Rattle.build_sources.specs.Partials.{load_at, AfterLoaded, AfterPartial, AfterPartials, described_by, partial_addresses}
use Rattle.build_outputs.specs.Builds.{IsItemRefusal, built_of}
use Rattle.image_audit.specs.Findings.{audit_finding, is_mapped}
use Rattle.image_audit.specs.Audits.{image_limit, image_file, has_table, IsImageRefusal, UnlessFound, AfterAudit, AfterLater}
use Rattle.dom0less.specs.Builds.{IsDescribedJob, IsStandJob}
use Rattle.dom0less.specs.Checks.{IsPlanCheck, IsDescribedCheck, IsStandCheck}
use Rattle.dom0less.specs.Generated.{generated_description}
use Rattle.dom0less.specs.Job.{IsScriptWriting, IsAskedJob, IsSettingsJob, CallsFor}
use Rattle.dom0less.specs.Laws.{IsAbsence, IsReadOfAbsent}

-- an outcome is no list, and where it refuses with `Read`, it says that a file is not there
abbrev SaysAbsence : Outcome → Type 0
SaysAbsence (Refuses status message) = status ≡ statuses.Read → IsAbsence message
SaysAbsence (Builds outputs report) = ⊤
SaysAbsence (Finds status list) = ⊥
SaysAbsence (Fails name) = ⊤

-- so does each outcome that is called for
abbrev Tells : (Outcome → Type 0) → Type 0
Tells called = (outcome : Outcome) → called outcome → SaysAbsence outcome

-- so does a step, where what follows does
abbrev Leads : {A : Type 0} → (Next A → Outcome → Type 0) → Type 1
Leads {A} step = (next : Next A) → ((x : A) → Tells (next x)) → Tells (step next)

-- ---- refusals and writings

absence_tells : (name : List ℕ) → Tells (IsRefusal statuses.Read (file_message name (codes "not found")))
absence_tells name (Refuses status message) p = λ is. (name, p.1)
absence_tells name (Builds outputs report) p = elim p [ ]
absence_tells name (Finds status list) p = elim p [ ]
absence_tells name (Fails called) p = tt

refusal_tells : (status : Status) (message : List ℕ) → (status ≡ statuses.Read → ⊥) → Tells (IsRefusal status message)
refusal_tells status message other (Refuses s m) p = λ is. absurd (other (sym p.0 ∙ is))
refusal_tells status message other (Builds outputs report) p = elim p [ ]
refusal_tells status message other (Finds s list) p = elim p [ ]
refusal_tells status message other (Fails name) p = tt

refused_tells : (message : List ℕ) → Tells (IsRefusal statuses.Refused message)
refused_tells message = refusal_tells statuses.Refused message (λ e. cc)

format_tells : (message : List ℕ) → Tells (IsRefusal statuses.Format message)
format_tells message = refusal_tells statuses.Format message (λ e. cc)

longer_tells : (message : List ℕ) → Tells (IsRefusal statuses.Longer message)
longer_tells message = refusal_tells statuses.Longer message (λ e. cc)

differs_tells : (message : List ℕ) → Tells (IsRefusal statuses.Differs message)
differs_tells message = refusal_tells statuses.Differs message (λ e. cc)

writing_tells : (outputs : List File) (report : List ℕ) → Tells (IsWriting outputs report)
writing_tells outputs report (Builds o r) p = tt
writing_tells outputs report (Refuses s m) p = elim p [ ]
writing_tells outputs report (Finds s list) p = elim p [ ]
writing_tells outputs report (Fails name) p = tt

never_tells : Tells (λ outcome. ⊥)
never_tells outcome p = elim p [ ]

-- ---- steps

both_lead : {A B : Type 0} (first : Next A → Outcome → Type 0) (second : A → Next B → Outcome → Type 0) → Leads first → ((x : A) → Leads (second x)) → Leads (λ (next : Next B) outcome. first (λ x. second x next) outcome)
both_lead first second one other next tells = one (λ x. second x next) (λ x. other x next tells)

hand_on_leads : {A : Type 0} (x : A) → Leads (hand_on x)
hand_on_leads x next tells = tells x

on_result_leads : {A E : Type 0} (refusal : E → Outcome → Type 0) → ((fault : E) → Tells (refusal fault)) → (result : Result A E) → Leads (λ next. OnResult refusal next result)
on_result_leads refusal one (Ok value) = hand_on_leads value
on_result_leads refusal one (Err fault) = λ next tells. one fault

on_option_leads : {A : Type 0} (refusal : Outcome → Type 0) → Tells refusal → (option : Option A) → Leads (λ next. OnOption refusal next option)
on_option_leads refusal one (Some value) = hand_on_leads value
on_option_leads refusal one None = λ next tells. one

asked_leads : {R A : Type 0} (Is : R → Type 0) (on : R → Next A → Outcome → Type 0) → ((r : R) → Leads (on r)) → Leads (λ (next : Next A) outcome. (r : R) × Is r × on r next outcome)
asked_leads Is on law next tells outcome p = law p.0 next tells outcome p.2

may_fail_leads : {A : Type 0} (name : List ℕ) (step : Next A → Outcome → Type 0) → Leads step → Leads (λ next outcome. OrFails name (step next outcome) outcome)
may_fail_leads name step law next tells outcome (inl fails) = subst SaysAbsence (sym fails) tt
may_fail_leads name step law next tells outcome (inr p) = law next tells outcome p

each_leads : {A B : Type 0} (step : A → Next B → Outcome → Type 0) → ((x : A) → Leads (step x)) → (xs : List A) → Leads (AfterEach step xs)
each_leads step each [] = hand_on_leads []
each_leads step each (x ∷ xs) = both_lead (step x) (λ y next. AfterEach step xs (λ ys. next (y ∷ ys))) (each x)
    (λ y. both_lead (AfterEach step xs) (λ ys. hand_on (y ∷ ys)) (each_leads step each xs) (λ ys. hand_on_leads (y ∷ ys)))

-- ---- files

read_refusals_tell : (name : List ℕ) (limit : ℕ) (error : FileError) → Tells (IsReadRefusal name limit error)
read_refusals_tell name limit read_errors.Absent = absence_tells name
read_refusals_tell name limit read_errors.Longer = longer_tells _
read_refusals_tell name limit read_errors.Failed = never_tells
read_refusals_tell name limit read_errors.Memory = never_tells

tree_leads : (name bytes : List ℕ) → Leads (AfterTree name bytes)
tree_leads name bytes next tells outcome (inl p) = format_tells _ outcome p.2
tree_leads name bytes next tells outcome (inr p) = tells p.0 outcome p.2

place_refusals_tell : (fault : PlaceFault) → Tells (IsPlaceRefusal fault)
place_refusals_tell (place_faults.PastEnd name end) = refused_tells _
place_refusals_tell place_faults.Memory = never_tells

make_refusals_tell : (tree : List ℕ) (fault : MakeFault) → Tells (IsMakeRefusal tree fault)
make_refusals_tell tree (make_faults.NoPhandle highest) = refused_tells _
make_refusals_tell tree make_faults.Memory = never_tells

script_leads : (folder : Option (List ℕ)) (kind : LoadKind) (config : Settings) (tree : FlatTree) (sizes : List ℕ) → Leads (AfterScript folder kind config tree sizes)
script_leads folder kind config tree sizes =
    both_lead (λ next. OnResult IsPlaceRefusal next (places_of config sizes)) (λ places next. OnResult (IsMakeRefusal (host_file folder config)) next (made_of config places (facts_of tree.root) kind))
    (on_result_leads IsPlaceRefusal place_refusals_tell (places_of config sizes))
    (λ places. on_result_leads (IsMakeRefusal (host_file folder config)) (make_refusals_tell (host_file folder config)) (made_of config places (facts_of tree.root) kind))

run_leads : (name : List ℕ) (commands : List Command) (root : Tree) → Leads (AfterRun name commands root)
run_leads name commands root = on_result_leads (IsStepRefusal name) (λ fault. format_tells _) (tree_effect commands root)

unless_found_tells : (name : List ℕ) (next : Outcome → Type 0) → Tells next → (found : Option (List ℕ)) → Tells (UnlessFound name next found)
unless_found_tells name next tells None = tells
unless_found_tells name next tells (Some text) = differs_tells _

module _ (told : Option (List File)) where
  reading_leads : (name : List ℕ) (limit : ℕ) → Leads (AfterReading told name limit)
  reading_leads name limit =
      may_fail_leads name _ (asked_leads (IsReading told name limit) (λ result next. OnResult (IsReadRefusal name limit) next result)
      (on_result_leads (IsReadRefusal name limit) (read_refusals_tell name limit)))

  size_leads : (name : List ℕ) → Leads (AfterSize told name)
  size_leads name =
      may_fail_leads name _ (asked_leads (IsSize told name) (λ size next. OnOption (IsRefusal statuses.Read (file_message name (codes "not found"))) next size)
      (on_option_leads (IsRefusal statuses.Read (file_message name (codes "not found"))) (absence_tells name)))

  sizes_lead : (names : List (List ℕ)) → Leads (AfterSizes told names)
  sizes_lead names = each_leads (AfterSize told) size_leads names

  tree_file_leads : (name : List ℕ) → Leads (AfterTreeFile told name)
  tree_file_leads name = both_lead (AfterReading told name tree_limit) (AfterTree name) (reading_leads name tree_limit) (tree_leads name)

  -- a configuration
  config_leads : (name : List ℕ) → Leads (AfterConfig told name)
  config_leads name =
      both_lead (AfterReading told name config_limit) (λ bytes next. OnResult (IsConfigRefusal name) next (config_of bytes)) (reading_leads name config_limit)
      (λ bytes. on_result_leads (IsConfigRefusal name) (λ fault. format_tells _) (config_of bytes))

  host_leads : (folder : Option (List ℕ)) (kind : LoadKind) (config : Settings) → Leads (AfterHost told folder kind config)
  host_leads folder kind config next tells =
      tree_file_leads (host_file folder config) _
      (λ tree. sizes_lead (map (joined folder) (other_files config)) _
      (λ others. script_leads folder kind config tree (others ++ tree.length ∷ []) _
      (λ script. tells (record { settings = config; tree = tree; sizes = others ++ tree.length ∷ []; script = script }))))

  made_leads : (name : List ℕ) (folder : Option (List ℕ)) (kind : LoadKind) → Leads (AfterMade told name folder kind)
  made_leads name folder kind = both_lead (AfterConfig told name) (λ config. AfterHost told folder kind config) (config_leads name) (host_leads folder kind)

  -- a script
  script_file_leads : (name : List ℕ) → Leads (AfterScriptFile told name)
  script_file_leads name =
      both_lead (AfterReading told name script_limit) (λ text next. OnResult (IsLineRefusal name) next (commands_of text)) (reading_leads name script_limit)
      (λ text. on_result_leads (IsLineRefusal name) (λ fault. format_tells _) (commands_of text))

  known_size_leads : (name : List ℕ) (known : Option ℕ) → Leads (AfterKnownSize told name known)
  known_size_leads name (Some size) = hand_on_leads size
  known_size_leads name None = size_leads name

  load_size_leads : (folder : Option Word) (tree : Option ℕ) (length : ℕ) (load : ℕ × List ℕ) → Leads (AfterLoadSize told folder tree length load)
  load_size_leads folder tree length (index, name) = known_size_leads (joined folder name) (known_size tree length index)

  load_sizes_lead : (folder : Option Word) (commands : List Command) (length : ℕ) → Leads (AfterLoadSizes told folder commands length)
  load_sizes_lead folder commands length = each_leads (AfterLoadSize told folder (tree_load_of commands) length) (load_size_leads folder (tree_load_of commands) length) (loads_named commands)

  -- what a build stands on
  source_leads : (source : Source) (outputs : Option Word) → Leads (AfterSource told source outputs)
  source_leads (Config config folder kind) outputs next tells =
      made_leads config folder kind _ (λ made. run_leads script_name made.script made.tree.root _ (λ root. tells (config_stand outputs made root)))
  source_leads (Replay script tree folder) outputs next tells =
      script_file_leads script _
      (λ commands. tree_file_leads tree _
      (λ file. load_sizes_lead folder commands file.length _
      (λ sizes. run_leads script commands file.root _
      (λ root. tells (replay_stand commands file sizes root)))))
  source_leads (Ready tree) outputs next tells = tree_file_leads tree _ (λ file. tells (ready_stand file))

  -- partial trees
  loaded_leads : (folder : Option Word) (load : Option Loaded) → Leads (AfterLoaded told folder load)
  loaded_leads folder None next tells = tells None
  loaded_leads folder (Some load) next tells = tree_file_leads (joined folder load.name) _ (λ file. tells (Some file.root))

  partial_leads : (folder : Option Word) (loads : List Loaded) (address : Option ℕ) → Leads (AfterPartial told folder loads address)
  partial_leads folder loads None = hand_on_leads None
  partial_leads folder loads (Some address) = loaded_leads folder (load_at loads address)

  partials_lead : (folder : Option Word) (stand : Stand) → Leads (AfterPartials told folder stand)
  partials_lead folder stand next tells =
      each_leads (AfterPartial told folder stand.loads) (partial_leads folder stand.loads) (partial_addresses stand.root) _ (λ partials. tells (described_by stand partials))

  -- images
  audit_leads : (folder : Option Word) (mapped earlier : ℕ → Bool) (plan : GuestPlan) → Leads (AfterAudit told folder mapped earlier plan)
  audit_leads folder mapped earlier plan next tells =
      reading_leads (image_file folder plan) image_limit _
      (λ bytes. on_result_leads (IsImageRefusal (image_file folder plan)) (λ fault. format_tells _) (image_of bytes) _
      (λ image. unless_found_tells (image_file folder plan) (next bytes) (tells bytes) (audit_finding mapped earlier plan.ranges image.1 image.0)))

  module _ (folder : Option Word) (plans : List GuestPlan) where
    later_lead : (before : List (List ℕ)) (later : List GuestPlan) → Leads (AfterLater told folder plans before later)
    later_lead before [] next tells = tells before
    later_lead before (plan ∷ later) next tells = audit_leads folder (is_mapped plans) (has_table before) plan _ (λ image. later_lead (before ++ image ∷ []) later next tells)

  -- ---- what is asked for

  described_tells : (folder : Option Word) (stand : Stand) (description : Description) → Tells (IsDescribedJob folder stand description)
  described_tells folder stand description = on_result_leads IsItemRefusal (λ fault. refused_tells _) (built_of stand.boot description) _ (λ plan. writing_tells _ _)

  check_tells : (folder : Option Word) (description : Description) → Tells (IsDescribedCheck told folder description)
  check_tells folder description =
      on_result_leads IsItemRefusal (λ fault. refused_tells _) (plan_of description) (IsPlanCheck told folder) (λ plan. later_lead folder plan.guests [] plan.guests _ (λ images. writing_tells _ _))

  stand_tells : (source : Source) (folder : Option Word) (stand : Stand) → Tells (IsStandJob told source folder stand)
  stand_tells source folder stand = partials_lead (folder_of source) stand (IsDescribedJob folder stand) (described_tells folder stand)

  stand_check_tells : (source : Source) (folder : Option Word) (stand : Stand) → Tells (IsStandCheck told source folder stand)
  stand_check_tells source folder stand = partials_lead (folder_of source) stand (IsDescribedCheck told folder) (check_tells folder)

  asked_tells : (asked : Asked) → Tells (IsAskedJob told asked)
  asked_tells (Build source folder) = source_leads source folder (IsStandJob told source folder) (stand_tells source folder)
  asked_tells (Check source folder) = source_leads source folder (IsStandCheck told source folder) (stand_check_tells source folder)
  asked_tells (Script ask) = made_leads ask.config ask.files ask.kind (IsScriptWriting ask.outputs) (λ made. writing_tells _ _)
  asked_tells (Show tree) = tree_file_leads tree _ (λ read. writing_tells _ _)
  asked_tells (Generate number) = on_result_leads IsItemRefusal (λ fault. refused_tells _) (built_of 0 (generated_description number)) _ (λ plan. writing_tells _ _)

  settings_tell : (asked : Option Asked) → Tells (IsSettingsJob told asked)
  settings_tell None = never_tells
  settings_tell (Some asked) = asked_tells asked

-- where `Read` is called for, a file is not there
pub read_of_absent : IsReadOfAbsent
read_of_absent words told message called = settings_tell told (settings words) (Refuses statuses.Read message) called refl

-- no list is called for
pub nothing_found : (words : List (List ℕ)) (told : Option (List File)) (status : Status) (list : List ℕ) → CallsFor words told (Finds status list) → ⊥
nothing_found words told status list called = settings_tell told (settings words) (Finds status list) called

-- the same as of `Read`, where the status is known to be that
pub names_absent : (words : List (List ℕ)) (told : Option (List File)) (status : Status) (message : List ℕ) → status ≡ statuses.Read → CallsFor words told (Refuses status message) → IsAbsence message
names_absent words told status message is called = read_of_absent words told message (subst (λ (s : Status). CallsFor words told (Refuses s message)) is called)
