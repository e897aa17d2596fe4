-- Where Xen's own devices stand in a guest's address space.
use Rattle.described.specs.declared.layout.Layout.{Layout}

-- the areas of a guest that is not mapped directly, in bytes (Xen, xen/include/public/arch-arm.h: GUEST_GICV3_GICD, GUEST_GICV3_GICR0,
-- GUEST_PL011 and GUEST_GNTTAB, each with _BASE and _SIZE)
unfoldable pub usual_layout : Layout
usual_layout = record {
  distributor = record { base = 0x03001000; size = 0x10000 };
  redistributors = record { base = 0x03020000; size = 0x01000000 };
  console = record { base = 0x22000000; size = 0x1000 };
  grant = record { base = 0x38000000; size = 0x01000000 };
}
