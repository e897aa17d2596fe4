-- The definitions on small maps.
use Rattle.std.proofs.Common.{◌≡◌, true, false, List, [], ◌∷◌, Some, None, refl}
use Rattle.texts.specs.Consecutive.{numbers}
use Rattle.described.specs.Maps.{target_of}
use Rattle.described.specs.Regions.{span, region_around, is_run}
use Rattle.described.specs.declared.map_range.Kind.TheVariants.{Ram}
use Rattle.described.specs.declared.map_range.MapRange.{MapRange}

-- two static ranges in this order, and turned
abbrev in_order : List MapRange
in_order =
    record { page = 0x40000; first = 0x40000; count = 256; kind = Ram } ∷
    record { page = 0x40100; first = 0x40100; count = 256; kind = Ram } ∷ []

abbrev turned : List MapRange
turned =
    record { page = 0x40000; first = 0x40100; count = 256; kind = Ram } ∷
    record { page = 0x40100; first = 0x40000; count = 256; kind = Ram } ∷ []

target-turned : target_of turned 0x40105 ≡ Some (record { frame = 0x40005; kind = Ram })
target-turned = refl

target-none : target_of turned 0x3ffff ≡ None
target-none = refl

run-in_order : is_run (target_of in_order) (record { level = 2; page = 0x40000 }) ≡ true
unfolding numbers
run-in_order = refl

run-turned : is_run (target_of turned) (record { level = 2; page = 0x40000 }) ≡ false
unfolding numbers
run-turned = refl

-- a frame that is no multiple of 512
run-unaligned : is_run (target_of (record { page = 0x40000; first = 0x40100; count = 512; kind = Ram } ∷ [])) (record { level = 2; page = 0x40000 }) ≡ false
unfolding numbers
run-unaligned = refl

around : region_around 2 0x40105 ≡ record { level = 2; page = 0x40000 }
around = refl

spans : (span 0 ∷ span 1 ∷ span 2 ∷ span 3 ∷ []) ≡ 134217728 ∷ 262144 ∷ 512 ∷ 1 ∷ []
spans = refl
