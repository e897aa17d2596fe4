-- What status 0 promises of what was written, and what a refusal names.
use Rattle.std.specs.Prelude.{◌≡◌, ◌++◌, ℕ, List, [], length, Option, Ok, Err}
use Rattle.outside.specs.Outside.{File}
use Rattle.item_checks.specs.Refusals.{Refusal}
use Rattle.fdt_listing.specs.Listing.{listing}
use Rattle.outside.specs.declared.status.Status.TheVariants as statuses
use Rattle.run_steps.specs.Endings.{Refuses}
use Rattle.run_steps.specs.Steps.{nothing}
use Rattle.build_sources.specs.Configs.{AfterMade}
use Rattle.described.specs.Items.{refusal_text}
use Rattle.tree_files.specs.Trees.{FlatTree, IsTreeFile}
use Rattle.guest_images.specs.Walks.{AllWalk, MeetOnlyIn, AreApart}
use Rattle.image_audit.specs.Audits.{AreAudited}
use Rattle.image_audit.specs.Texts.{checked_line}
use Rattle.domain_plan.specs.Descriptions.{Description}
use Rattle.domain_plan.specs.TreePlans.{TreePlan, plan_of, is_common}
use Rattle.dom0less_words.specs.Words.{Word, Source, Config}
use Rattle.build_sources.specs.Sources.{Stand, StandsOn, folder_of}
use Rattle.build_sources.specs.Edited.{HasEditedTree}
use Rattle.build_sources.specs.Partials.{Describes}
use Rattle.build_outputs.specs.Builds.{built_of}
use Rattle.build_outputs.specs.Promises.{IsBuildOf}
use Rattle.build_outputs.specs.declared.totals.Totals.{Totals}

-- Nothing of what is described is refused. These outputs are the files of its guests behind those that come before, and this report the lines about them behind those that come before.
pub record IsStandBuild (folder : Option Word) (stand : Stand) (description : Description) (outputs : List File) (report : List ℕ) : Type 0 where
  pub files : List File
  pub lines : List ℕ
  pub totals : Totals
  pub written : outputs ≡ stand.before ++ files
  pub reported : report ≡ stand.lines ++ lines
  pub built : IsBuildOf stand.boot description folder files lines totals

-- The files are read and describe guests; these outputs and this report are those of their build.
pub record IsDescribedBuild (told : Option (List File)) (source : Source) (folder : Option Word) (outputs : List File) (report : List ℕ) : Type 0 where
  pub stand : Stand
  pub stands : StandsOn told source folder stand
  pub description : Description
  pub described : Describes told (folder_of source) stand description
  pub built : IsStandBuild folder stand description outputs report
  -- of a configuration, what stands there is both its edited tree and what its printed script makes of the host's tree
  pub edited : HasEditedTree told source folder stand

-- The files are read and describe guests; the message names the first described item that is refused, with the first reason against it.
pub record NamesFirstRefused (told : Option (List File)) (source : Source) (folder : Option Word) (message : List ℕ) : Type 0 where
  pub stand : Stand
  pub stands : StandsOn told source folder stand
  pub description : Description
  pub described : Describes told (folder_of source) stand description
  pub refusal : Refusal
  pub first : built_of stand.boot description ≡ Err refusal
  pub named : message ≡ refusal_text refusal.0 refusal.1

-- the bytes are the listing of the tree of that name
pub record IsListing (told : Option (List File)) (name : List ℕ) (text : List ℕ) : Type 0 where
  pub tree : FlatTree
  pub read : IsTreeFile told name tree
  pub listed : text ≡ listing tree.reserves tree.root

-- before all items a configuration may be refused: its first file that ends past the end of memory, or that its tree leaves no phandle
abbrev pub IsRefusedBefore : Option (List File) → Source → List ℕ → Type 0
IsRefusedBefore told (Config config folder kind) message = AfterMade told config folder kind nothing (Refuses statuses.Refused message)
IsRefusedBefore told source message = ⊥

-- Each image was read as that of a guest and nothing is found in it. So all walk as the plan maps, whoever made them; two meet only in a region that both guests name by one id, and no table lies where a guest can reach it.
pub record IsPlanAudited (told : Option (List File)) (folder : Option Word) (description : Description) (report : List ℕ) : Type 0 where
  pub plan : TreePlan
  pub planned : plan_of description ≡ Ok plan
  pub images : List (List ℕ)
  pub audited : AreAudited told folder plan.guests [] plan.guests images
  pub reported : report ≡ checked_line (length plan.guests)
  pub walks : AllWalk plan.guests images
  pub meet : MeetOnlyIn (is_common description) images
  pub apart : AreApart images

-- The files are read and describe guests whose images were audited.
pub record IsDescribedAudit (told : Option (List File)) (source : Source) (folder : Option Word) (report : List ℕ) : Type 0 where
  pub stand : Stand
  pub stands : StandsOn told source folder stand
  pub description : Description
  pub described : Describes told (folder_of source) stand description
  pub audited : IsPlanAudited told folder description report
