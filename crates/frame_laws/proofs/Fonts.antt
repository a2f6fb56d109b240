-- Each number of a document has a font size, and gets one with other values.
use Rattle.std.proofs.Common.{◌≡◌, refl, ℤ, ◌≤◌, arith}
use Rattle.plain_tree.specs.Trees.{leafless, tree}
use Rattle.node_arena.specs.declared.number.NodeId.{NodeId}
use Rattle.node_arena.specs.Numbers.{IsDistinct, same, times}
use Rattle.node_arena.proofs.Same.{by_place, one_yes}
use Rattle.style_types.specs.Computed.{DeclaredMap, font_of}
use Rattle.tree_rules.specs.Documents.{first_font}
use Rattle.doc_text.proofs.Grown.{not_both}
use Rattle.placing.specs.Nodes.{NodeTrees}
use Rattle.page_tree.specs.Fonts.{HasFont, HasFontBelow, root_font}
use Rattle.page_tree.specs.Restyled.{GetsFontBelow, GetsFonts}
use Rattle.page_tree.proofs.Fonts.{none_below}

gets_none : (font : ℤ) (declared : DeclaredMap) (p r : ℤ) (n : NodeId) (t : NodeTrees) → times n t ≡ 0 → GetsFontBelow font declared p r n t
gets_none font declared p r n leafless e = tt
gets_none font declared p r n (tree x below after) e = (
  (λ q. absurd (omega (arith, e, one_yes (same x.0 n) q))),
  (gets_none font declared (font_of p r x.1.declared) r n below (omega (arith, e)), gets_none font declared p r n after (omega (arith, e))),
)

has_below : (p r : ℤ) (n : NodeId) (t : NodeTrees) → times n t ≤ 1 → (font : ℤ) × HasFontBelow font p r n t
has_below p r n leafless d = (p, tt)
has_below p r n (tree x below after) d =
    by_place x below n
    (λ h. let own = one_yes (same x.0 n) h.is in
    (font_of p r x.1.declared, ((λ q. refl), (none_below (font_of p r x.1.declared) (font_of p r x.1.declared) r n below (omega (arith, d, own)), none_below (font_of p r x.1.declared) p r n after (omega (arith, d, own))))))
    (λ h. let there = h.in_below in
    let w = has_below (font_of p r x.1.declared) r n below (omega (arith, d)) in
    (w.0, ((λ q. absurd (not_both (same x.0 n) q h.not)), (w.1, none_below w.0 p r n after (omega (arith, d, there))))))
    (λ h. let w = has_below p r n after (omega (arith, d)) in
    (w.0, ((λ q. absurd (not_both (same x.0 n) q h.not)), (none_below w.0 (font_of p r x.1.declared) r n below h.none, w.1))))

gets_below : (declared : DeclaredMap) (p r : ℤ) (n : NodeId) (t : NodeTrees) → times n t ≤ 1 → (font : ℤ) × GetsFontBelow font declared p r n t
gets_below declared p r n leafless d = (p, tt)
gets_below declared p r n (tree x below after) d =
    by_place x below n
    (λ h. let own = one_yes (same x.0 n) h.is in
    (font_of p r declared, ((λ q. refl), (gets_none (font_of p r declared) declared (font_of p r x.1.declared) r n below (omega (arith, d, own)), gets_none (font_of p r declared) declared p r n after (omega (arith, d, own))))))
    (λ h. let there = h.in_below in
    let w = gets_below declared (font_of p r x.1.declared) r n below (omega (arith, d)) in
    (w.0, ((λ q. absurd (not_both (same x.0 n) q h.not)), (w.1, gets_none w.0 declared p r n after (omega (arith, d, there))))))
    (λ h. let w = gets_below declared p r n after (omega (arith, d)) in
    (w.0, ((λ q. absurd (not_both (same x.0 n) q h.not)), (gets_none w.0 declared (font_of p r x.1.declared) r n below h.none, w.1))))

pub has_font : (n : NodeId) (t : NodeTrees) → IsDistinct t → (font : ℤ) × HasFont font n t
has_font n leafless d = (first_font, tt)
has_font n (tree x below after) d =
    let few : times n (tree x below after) ≤ 1 = d n in
    by_place x below n
    (λ h. let own = one_yes (same x.0 n) h.is in
    (root_font x.1.declared, ((λ q. refl), none_below (root_font x.1.declared) (root_font x.1.declared) (root_font x.1.declared) n below (omega (arith, few, own)))))
    (λ h. let w = has_below (root_font x.1.declared) (root_font x.1.declared) n below (omega (arith, few)) in
    (w.0, ((λ q. absurd (not_both (same x.0 n) q h.not)), w.1)))
    (λ h. (root_font x.1.declared, ((λ q. absurd (not_both (same x.0 n) q h.not)), none_below (root_font x.1.declared) (root_font x.1.declared) (root_font x.1.declared) n below h.none)))

pub gets_fonts : (declared : DeclaredMap) (n : NodeId) (t : NodeTrees) → IsDistinct t → (em : ℤ) × ((rem : ℤ) × GetsFonts em rem declared n t)
gets_fonts declared n leafless d = (first_font, (first_font, tt))
gets_fonts declared n (tree x below after) d =
    let few : times n (tree x below after) ≤ 1 = d n in
    by_place x below n
    (λ h. (root_font declared, (root_font declared, ((λ q. (refl, refl)), (λ q. absurd (not_both (same x.0 n) h.is q))))))
    (λ h. let w = gets_below declared (root_font x.1.declared) (root_font x.1.declared) n below (omega (arith, few)) in
    (w.0, (root_font x.1.declared, ((λ q. absurd (not_both (same x.0 n) q h.not)), (λ q. (refl, w.1))))))
    (λ h. (first_font, (root_font x.1.declared, ((λ q. absurd (not_both (same x.0 n) q h.not)), (λ q. (refl, gets_none first_font declared (root_font x.1.declared) (root_font x.1.declared) n below h.none))))))
