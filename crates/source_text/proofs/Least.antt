-- The least text is a source.
use Rattle.std.proofs.Common.{refl, inl, inr, [], ◌∷◌}
use Rattle.std.specs.Prelude.{codes}
use Rattle.fdt_tree.specs.Tree.{none, Tree}
use Rattle.source_text.specs.Characters.{is_string_byte}
use Rattle.source_text.specs.Source.{IsSource, IsBlank, IsVersion, AreReserves, IsRoot, Begins, IsNumber, IsValue, IsBlock, IsPair}

no_blank : IsBlank []
no_blank = ([], tt, refl)

abbrev bare : Tree
bare = record { name = []; properties = []; children = none }

least_version : IsVersion (codes "/dts-v1/;")
least_version = ([], [], [], no_blank, (no_blank, refl), no_blank, refl)

least_reserved : AreReserves [] []
least_reserved = ([], refl, refl)

least_root : IsRoot (codes "/{};") bare
least_root = ([], codes "{};", [], (no_blank, refl), ([], [], ([], [], [], no_blank, refl, refl, refl), no_blank, refl), inl no_blank, refl, refl)

least : IsSource (codes "/dts-v1/;/{};") [] bare
least = record { version_text = codes "/dts-v1/;"; reserves_text = []; root_text = codes "/{};"; version = least_version; reserved = least_reserved; root = least_root; spelled = refl }

-- Nothing begins a source, as every front of one does.
nothing_begins : Begins []
nothing_begins = (codes "/dts-v1/;/{};", [], bare, least)

hexadecimal_number : IsNumber (codes "0x1F") 31
hexadecimal_number = inl (codes "1F", refl, refl, refl)

zero_alone : IsNumber (codes "0") 0
zero_alone = inr (refl, refl)

decimal_number : IsNumber (codes "20") 20
decimal_number = inr (refl, refl)

quoted_value : IsValue (codes "\"ab\"") (97 ∷ 98 ∷ 0 ∷ [])
unfolding is_string_byte
quoted_value = inl (codes "ab", refl, refl, refl)

empty_cells : IsValue (codes "<>") []
empty_cells = inr (inl ([], [], [], no_blank, refl, refl, refl))

pair_of_digits : IsPair (codes "0a") 10
pair_of_digits = (48, 97, [], refl, no_blank, refl, refl)

comment_of_stars : IsBlock (codes "/***/")
comment_of_stars = (codes "*", refl, refl)
