use Rattle.std.proofs.Common.{◌∙◌, ap, ℕ, List, Some}
use Rattle.stage2_walk.specs.TableImages.{TableImage}
use Rattle.image_audit.specs.PrivateRests.{is_outside}
use Rattle.image_audit.proofs.Torn.{torn, whole}
use Rattle.image_audit.proofs.finding.find_finding.Goals as goal

-- the runs are compared
pub returns-in-Ok-clause-found : goal.returns-in-Ok-clause-found
returns-in-Ok-clause-found c =
    whole (is_outside c.args.unmapped.now) (is_outside c.args.free.now) c.args.ranges.now c.args.words.now.image.pages c.image.result.now.pages c.args.words.now.image.root c.image.result.now.root
    (ap (λ (image : TableImage). image.pages) c.image.ensures ∙ c.runs.ensures.pages) (ap (λ (image : TableImage). image.root) c.image.ensures ∙ c.runs.ensures.root) c.in-Ok.ensures.whole c.compare.result c.compare.ensures

-- or the tear is said
pub returns-in_ok-make_tear_text-in-Err-clause-found : goal.returns-in_ok-make_tear_text-in-Err-clause-found
returns-in_ok-make_tear_text-in-Err-clause-found c =
    ap (λ (text : List ℕ). Some text) c.in_ok-make_tear_text-in-Err.ensures.text
    ∙ torn (is_outside c.args.unmapped.now) (is_outside c.args.free.now) c.args.ranges.now c.args.words.now.image.pages c.args.words.now.image.root c.in-Err.tear (c.in-Err.ensures.torn c.in_ok-make_tear_text-in-Err.ensures.tear)
