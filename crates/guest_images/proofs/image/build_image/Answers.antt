use Rattle.std.proofs.Common.{◌∙◌, ap}
use Rattle.stage2_walk.specs.Files.{image_of}
use Rattle.guest_images.proofs.image.build_image.Goals as goal

pub returns-in_ok-bytes-in-Ok-clause-built : goal.returns-in_ok-bytes-in-Ok-clause-built
returns-in_ok-bytes-in-Ok-clause-built c = record {
  root = c.in-Ok.image.root;
  pages = c.in-Ok.image.pages;
  file = ap image_of c.from-file.ensures ∙ c.in_ok-bytes-in-Ok.ensures.image c.in-Ok.ensures.root_pages;
  spelled = c.from-file.ensures ∙ c.in_ok-bytes-in-Ok.ensures.file;
  least = c.in-Ok.ensures.least;
  walk = c.in-Ok.ensures.walk;
  paired = c.in-Ok.ensures.root;
  drawn = c.in-Ok.ensures.frames;
}
