use Rattle.std.proofs.lemmas.List.{map-append, take_all}
use Rattle.std.proofs.Common.{ap₂, map, length, ◌≤◌, ◌≡◌, ◌∙◌, ◌+◌, ◌++◌, ◌∷◌, [], ℕ, List, ap, sym, subst, take}
use Rattle.domain_plan.specs.declared.planned.GuestPlan.{GuestPlan}
use Rattle.guest_images.specs.declared.images.GuestImage.{GuestImage}
use Rattle.guest_images.specs.Built.{files_in, tables_counted}
use Rattle.guest_images.specs.Requests.{tables_needed, no_table_frame, left_by, left_by_all, refused_tables}
use Rattle.guest_images.specs.PrivateImageFiles.{IsImageFile, AreImageFiles}
use Rattle.guest_images.proofs.LeastFiles.{files_are_least}
use Rattle.guest_images.proofs.WalksApart.{all_walk, images_meet, images_apart}
use Rattle.guest_images.proofs.GuestByGuest.{left_more, images_more, met_more, next_of, refused_at}
use Rattle.guest_images.proofs.images.build_images.Goals as goal

-- the next guest cannot have its tables, or memory ran out
pub returns-in-Err-clause-refused : goal.returns-in-Err-clause-refused
returns-in-Err-clause-refused c =
    let now = c.loop-plan.invariant in
    refused_at c.args.plans.now c.loop-plan.plan-index c.plan-item.result c.args.pool.now.free c.loop-plan.pool.free c.in-Err.fault c.loop-plan-test.true c.plan-item.is now.left now.met c.in-Err.ensures.refused

-- the next guest has its image
pub loop-plan-preserved : goal.loop-plan-preserved
loop-plan-preserved c =
    let plans : List GuestPlan = c.args.plans.now in
    let free : List ℕ = c.args.pool.now.free in
    let i : ℕ = c.loop-plan.plan-index in
    let plan : GuestPlan = c.plan-item.result in
    let now = c.loop-plan.invariant in
    let next : take (i + 1) plans ≡ take i plans ++ plan ∷ [] = next_of plans i plan c.loop-plan-test.true c.plan-item.is in
    let is : IsImageFile plan.ranges (left_by_all (take i plans) free) c.in-Ok.image.file = subst (λ (f : List ℕ). IsImageFile plan.ranges f c.in-Ok.image.file) now.left c.in-Ok.ensures.built in
    record {
      built = subst (λ (ps : List GuestPlan). AreImageFiles ps free (files_in c.push.new.self)) (sym next)
          (subst (AreImageFiles (take i plans ++ plan ∷ []) free) (sym (ap files_in c.in_ok-push-in-Ok.ensures.ok ∙ map-append (λ (image : GuestImage). image.file) c.loop-plan.images (c.in-Ok.image ∷ [])))
          (images_more (take i plans) plan free (files_in c.loop-plan.images) c.in-Ok.image.file now.built is));
      tables = ap tables_counted c.in_ok-push-in-Ok.ensures.ok ∙ map-append (λ (image : GuestImage). image.tables) c.loop-plan.images (c.in-Ok.image ∷ [])
          ∙ ap₂ (λ (before : List ℕ) (one : ℕ). before ++ one ∷ []) now.tables c.in-Ok.ensures.tables
          ∙ sym (map-append tables_needed (take i plans) (plan ∷ [])) ∙ ap (map tables_needed) (sym next);
      left = c.in-Ok.ensures.left ∙ ap (left_by plan) now.left ∙ sym (left_more (take i plans) plan free) ∙ ap (λ (ps : List GuestPlan). left_by_all ps free) (sym next);
      met = ap (λ (ps : List GuestPlan). refused_tables ps free) next ∙ met_more (take i plans) plan free now.met (ap (no_table_frame plan) (sym now.left) ∙ c.in-Ok.ensures.met);
    }

-- all guests have their images
whole : (plans : List GuestPlan) (i : ℕ) (free : List ℕ) (files : List (List ℕ)) → length plans ≤ i → AreImageFiles (take i plans) free files → AreImageFiles plans free files
whole plans i free files past are = subst (λ (ps : List GuestPlan). AreImageFiles ps free files) (take_all i plans past) are

pub returns-clause-files : goal.returns-clause-files
returns-clause-files c =
    files_are_least c.args.plans.now c.args.pool.now.free (files_in c.loop-plan.images)
    (whole c.args.plans.now c.loop-plan.plan-index c.args.pool.now.free (files_in c.loop-plan.images) c.loop-plan-test.false c.loop-plan.invariant.built)

pub returns-clause-walk : goal.returns-clause-walk
returns-clause-walk c =
    all_walk c.args.plans.now c.args.pool.now.free (files_in c.loop-plan.images)
    (whole c.args.plans.now c.loop-plan.plan-index c.args.pool.now.free (files_in c.loop-plan.images) c.loop-plan-test.false c.loop-plan.invariant.built)

pub returns-clause-meet : goal.returns-clause-meet
returns-clause-meet c common apart =
    images_meet c.args.plans.now (files_in c.loop-plan.images) (returns-clause-walk c) common c.args.pool.now.free apart

pub returns-clause-apart : goal.returns-clause-apart
returns-clause-apart c common apart =
    images_apart common c.args.plans.now c.args.pool.now.free (files_in c.loop-plan.images) apart
    (whole c.args.plans.now c.loop-plan.plan-index c.args.pool.now.free (files_in c.loop-plan.images) c.loop-plan-test.false c.loop-plan.invariant.built)
