-- A node that is shifted, as a change of the numbered tree.
use Rattle.std.proofs.Common.{◌≡◌, ℕ, ℤ, zero, suc, ◌+◌, ◌≤◌, Bool, true, false, not, ◌&&◌, List, ◌∷◌, Option, Some, None, IsSome, is_some, refl, sym, ap, subst, ◌∙◌, arith, inl, inr}
use Rattle.std.specs.Prelude.{◌||◌, slice_get}
use Rattle.std.specs.Ordering.{int_eq}
use Rattle.std.specs.Str.{bytes_eq}
use Rattle.std.proofs.lemmas.Bool.{or_left, or_right}
use Rattle.std.proofs.lemmas.Bool.Decides.{Decides-int_eq}
use Rattle.plain_tree.specs.Trees.{Trees, leafless, tree, joined, count_of}
use Rattle.node_arena.specs.declared.number.NodeId.{NodeId}
use Rattle.node_arena.specs.Edits.{graft, grafted, moved, nothing, removed, tree_at}
use Rattle.node_arena.specs.Numbers.{EachNode, IsDistinct, Part, below_of, child_at, is_among, mapped, number_of, one, part_at, same, times, tops, way_up}
use Rattle.node_arena.proofs.Changed.{times_mapped}
use Rattle.node_arena.proofs.Edited.{each_edited, each_put, each_tree, edited_here, edited_not, graft_summed, times_summed, tree_is}
use Rattle.node_arena.proofs.Parts.{part_within}
use Rattle.node_arena.proofs.Same.{After, Below, Here, by_place, cond_no, cond_yes, one_no, one_yes, part_after, part_below, part_here, part_some, part_there, same_from, same_is}
use Rattle.node_arena.proofs.Ways.{within_way}
use Rattle.style_types.specs.Computed.{font_of}
use Rattle.style_types.specs.Styles.{StyleMap}
use Rattle.tree_rules.specs.Chains.{sibling_of}
use Rattle.tree_rules.specs.Documents.{first_font}
use Rattle.doc_text.specs.Label.{Label}
use Rattle.doc_text.specs.Named as doc
use Rattle.doc_text.specs.Texts.{Word}
use Rattle.doc_text.proofs.Grown.{own_name}
use Rattle.placing.specs.declared.node.Node.{Node}
use Rattle.placing.specs.Nodes.{IsLive, NodeTrees, bare, label_of_bare}
use Rattle.placing.proofs.Bares.{live_bare}
use Rattle.placing.proofs.Mapped.{child_mapped, distinct_mapped, part_by, part_mapped}
use Rattle.reach_frame.specs.Local.{IsLocal}
use Rattle.reach_frame.proofs.Composed.{composed}
use Rattle.reach_frame.proofs.Frame.{not_both}
use Rattle.reach_frame.proofs.Moves.{move_local}
use Rattle.reach_frame.proofs.Rooted.{child_way}
use Rattle.reach_frame.proofs.Values.{AtNode, StaysApart, at_node, faces, label_at, values_at}
use Rattle.page_tree.specs.Documents.{plain_trees}
use Rattle.page_tree.specs.Fonts.{AreStyled, HasFont, HasFontBelow, HasStyle, IsStyled, root_font, root_font_of}
use Rattle.page_tree.specs.Reach.{font_below, font_in, gets_other_font, has_other_font, is_parent, root_font_in}
use Rattle.page_tree.specs.Registers.{Tells}
use Rattle.page_tree.specs.Restyled.{Styles, restyled, styled_from}
use Rattle.page_tree.specs.Shapes.{Shifts}
use Rattle.page_tree.proofs.Fonts.{none_below}
use Rattle.page_tree.proofs.Locals.{own_nodes, touched_number, touched_parent}
use Rattle.page_tree.proofs.Lookups.{found_tree}
use Rattle.page_tree.proofs.Moves.{once_left, way_in}
use Rattle.page_tree.proofs.Reaching.{IsChange, IsFrom}
use Rattle.page_tree.proofs.Removals.{parts_times}
use Rattle.page_tree.proofs.Restyled.{restyled_grafted, restyled_joined}

-- ---- font sizes by names
no_font : (name : Word) (id : NodeId) (p r other : ℤ) (s : NodeTrees) → Tells id name s → times id s ≡ 0 → font_below p r name (plain_trees s) other ≡ other
no_font name id p r other leafless h z = refl
no_font name id p r other (tree x below after) h z =
    cond_no (bytes_eq x.1.name name) (font_of p r x.1.declared) _ (sym h.0 ∙ at (same x.0 id) refl)
    ∙ no_font name id (font_of p r x.1.declared) r (font_below p r name (plain_trees after) other) below h.1.0 (omega (arith, z)) ∙ no_font name id p r other after h.1.1 (omega (arith, z))
  where
    at : (c : Bool) → same x.0 id ≡ c → same x.0 id ≡ false
    at true e = absurd (omega (arith, z, one_yes (same x.0 id) e))
    at false e = e

some_font : (name : Word) (id : NodeId) (f p r other : ℤ) (s : NodeTrees) → Tells id name s → 1 ≤ times id s → HasFontBelow f p r id s → font_below p r name (plain_trees s) other ≡ f
some_font name id f p r other leafless h l b = absurd (omega (arith, l))
some_font name id f p r other (tree x below after) h l b =
    at (same x.0 id) refl (λ o g. some_font name id f (font_of p r x.1.declared) r o below h.1.0 g b.1.0) (λ g. some_font name id f p r other after h.1.1 g b.1.1)
  where
    inside : same x.0 id ≡ false → ((o : ℤ) → 1 ≤ times id below → font_below (font_of p r x.1.declared) r name (plain_trees below) o ≡ f) → (1 ≤ times id after → font_below p r name (plain_trees after) other ≡ f) → (n : ℕ) → times id below ≡ n →
        font_below (font_of p r x.1.declared) r name (plain_trees below) (font_below p r name (plain_trees after) other) ≡ f
    inside e low rest zero z = no_font name id (font_of p r x.1.declared) r (font_below p r name (plain_trees after) other) below h.1.0 z ∙ rest (omega (arith, l, z, one_no (same x.0 id) e))
    inside e low rest (suc n) z = low (font_below p r name (plain_trees after) other) (omega (arith, z))

    at : (c : Bool) → same x.0 id ≡ c → ((o : ℤ) → 1 ≤ times id below → font_below (font_of p r x.1.declared) r name (plain_trees below) o ≡ f) → (1 ≤ times id after → font_below p r name (plain_trees after) other ≡ f) →
        font_below p r name (plain_trees (tree x below after)) other ≡ f
    at true e low rest = cond_yes (bytes_eq x.1.name name) (font_of p r x.1.declared) _ (sym h.0 ∙ e) ∙ b.0 e
    at false e low rest = cond_no (bytes_eq x.1.name name) (font_of p r x.1.declared) _ (sym h.0 ∙ e) ∙ inside e low rest (times id below) refl

pub font_named : (t : NodeTrees) (name : Word) (id : NodeId) (f : ℤ) → count_of t ≡ 1 → Tells id name t → 1 ≤ times id t → HasFont f id t → font_in name (plain_trees t) ≡ f
font_named leafless name id f one h l b = absurd (omega (arith, l))
font_named (tree x below (tree y under later)) name id f one h l b = absurd (omega (arith, one))
font_named (tree x below leafless) name id f one h l b = at (same x.0 id) refl
  where
    at : (c : Bool) → same x.0 id ≡ c → font_in name (plain_trees (tree x below leafless)) ≡ f
    at true e = cond_yes (bytes_eq x.1.name name) (root_font x.1.declared) _ (sym h.0 ∙ e) ∙ b.0 e
    at false e =
        cond_no (bytes_eq x.1.name name) (root_font x.1.declared) _ (sym h.0 ∙ e)
        ∙ some_font name id f (root_font x.1.declared) (root_font x.1.declared) first_font below h.1.0 (omega (arith, l, one_no (same x.0 id) e)) b.1

pub root_named : (t : NodeTrees) → root_font_in (plain_trees t) ≡ root_font_of t
root_named leafless = refl
root_named (tree x below after) = refl

-- the font size of a node whose trees have their styles
record HasOwn (id : NodeId) (r : ℤ) (q : Part Node) (fits : ℤ → Type 0) : Type 0 where
  pub font : ℤ
  pub has : fits font
  pub style : HasStyle font r q.0
  pub below : AreStyled font r q.1

own_below : (id : NodeId) (p r : ℤ) (q : Part Node) (s : NodeTrees) → IsDistinct s → part_at s id ≡ Some q → AreStyled p r s → HasOwn id r q (λ f. HasFontBelow f p r id s)
own_below id p r q leafless d e a = absurd cc
own_below id p r q (tree x below after) d e a =
    by_place x below id here (under (λ g. own_below id (font_of p r x.1.declared) r q below (λ n. let f = d n in omega (arith, f)) g a.1.0)) (later (λ g. own_below id p r q after (λ n. let f = d n in omega (arith, f)) g a.1.1))
  where
    some_part : (a b : Part Node) → Some a ≡ Some b → a ≡ b
    some_part a b e = cc

    here : Here x id → HasOwn id r q (λ f. HasFontBelow f p r id (tree x below after))
    here h =
        let is : (x.1, below) ≡ q = some_part (x.1, below) q (sym (part_here x below after id h) ∙ e) in
        let c = d id in
        let o = one_yes (same x.0 id) h.is in
        record {
          font = font_of p r x.1.declared;
          has = (λ g. refl, (none_below (font_of p r x.1.declared) (font_of p r x.1.declared) r id below (omega (arith, c, o)), none_below (font_of p r x.1.declared) p r id after (omega (arith, c, o))));
          style = subst (λ (z : Part Node). HasStyle (font_of p r x.1.declared) r z.0) is a.0;
          below = subst (λ (z : Part Node). AreStyled (font_of p r x.1.declared) r z.1) is a.1.0;
        }

    under : (part_at below id ≡ Some q → HasOwn id r q (λ f. HasFontBelow f (font_of p r x.1.declared) r id below)) → Below x below id → HasOwn id r q (λ f. HasFontBelow f p r id (tree x below after))
    under low h =
        let own = low (sym (part_below x below after id h) ∙ e) in
        let c = d id in
        let b = h.in_below in
        record {
          font = own.font;
          has = (λ g. absurd (not_both (same x.0 id) g h.not), (own.has, none_below own.font p r id after (omega (arith, c, b))));
          style = own.style;
          below = own.below;
        }

    later : (part_at after id ≡ Some q → HasOwn id r q (λ f. HasFontBelow f p r id after)) → After x below id → HasOwn id r q (λ f. HasFontBelow f p r id (tree x below after))
    later rest h =
        let own = rest (sym (part_after x below after id h) ∙ e) in
        record {
          font = own.font;
          has = (λ g. absurd (not_both (same x.0 id) g h.not), (none_below own.font (font_of p r x.1.declared) r id below h.none, own.has));
          style = own.style;
          below = own.below;
        }

own_font : (id : NodeId) (q : Part Node) (t : NodeTrees) → count_of t ≡ 1 → IsDistinct t → part_at t id ≡ Some q → IsStyled t → HasOwn id (root_font_of t) q (λ f. HasFont f id t)
own_font id q leafless one d e a = absurd cc
own_font id q (tree x below (tree y under later)) one d e a = absurd (omega (arith, one))
own_font id q (tree x below leafless) one d e a = by_place x below id here inner (λ h. let none : None ≡ Some q = sym (part_after x below leafless id h) ∙ e in absurd cc)
  where
    some_part : (a b : Part Node) → Some a ≡ Some b → a ≡ b
    some_part a b e = cc

    here : Here x id → HasOwn id (root_font x.1.declared) q (λ f. HasFont f id (tree x below leafless))
    here h =
        let is : (x.1, below) ≡ q = some_part (x.1, below) q (sym (part_here x below leafless id h) ∙ e) in
        let c = d id in
        record {
          font = root_font x.1.declared;
          has = (λ g. refl, none_below (root_font x.1.declared) (root_font x.1.declared) (root_font x.1.declared) id below (omega (arith, c, one_yes (same x.0 id) h.is)));
          style = subst (λ (z : Part Node). HasStyle (root_font x.1.declared) (root_font x.1.declared) z.0) is a.0;
          below = subst (λ (z : Part Node). AreStyled (root_font x.1.declared) (root_font x.1.declared) z.1) is a.1;
        }

    inner : Below x below id → HasOwn id (root_font x.1.declared) q (λ f. HasFont f id (tree x below leafless))
    inner h =
        let own = own_below id (root_font x.1.declared) (root_font x.1.declared) q below (λ n. let f = d n in omega (arith, f)) (sym (part_below x below leafless id h) ∙ e) a.1 in
        record {
          font = own.font;
          has = (λ g. absurd (not_both (same x.0 id) g h.not), own.has);
          style = own.style;
          below = own.below;
        }

-- ---- styles of what is moved
restyled_tree : (styles : Styles) (n : NodeId) (t : NodeTrees) → restyled styles (tree_at n t) ≡ tree_at n (restyled styles t)
restyled_tree styles n leafless = refl
restyled_tree styles n (tree x below after) = at (same x.0 n) refl (restyled_tree styles n below) (restyled_tree styles n after)
  where
    at : (c : Bool) → same x.0 n ≡ c → restyled styles (tree_at n below) ≡ tree_at n (restyled styles below) → restyled styles (tree_at n after) ≡ tree_at n (restyled styles after) → restyled styles (tree_at n (tree x below after)) ≡ tree_at n (restyled styles (tree x below after))
    at true e b a = ap (restyled styles) (cond_yes (same x.0 n) (tree x below leafless) _ e) ∙ sym (cond_yes (same x.0 n) (restyled styles (tree x below leafless)) _ e)
    at false e b a =
        ap (restyled styles) (cond_no (same x.0 n) (tree x below leafless) _ e) ∙ restyled_joined styles (tree_at n below) (tree_at n after) ∙ (λ i. joined (b i) (a i))
        ∙ sym (cond_no (same x.0 n) (restyled styles (tree x below leafless)) _ e)

restyled_removed : (styles : Styles) (n : NodeId) (t : NodeTrees) → restyled styles (removed n t) ≡ removed n (restyled styles t)
restyled_removed styles n leafless = refl
restyled_removed styles n (tree x below after) = at (same x.0 n) refl (restyled_removed styles n below) (restyled_removed styles n after)
  where
    now : NodeId × Node
    now = (x.0, record x.1 { style = styled_from styles x.0 x.1.style })

    at : (c : Bool) → same x.0 n ≡ c → restyled styles (removed n below) ≡ removed n (restyled styles below) → restyled styles (removed n after) ≡ removed n (restyled styles after) → restyled styles (removed n (tree x below after)) ≡ removed n (restyled styles (tree x below after))
    at true e b a = ap (restyled styles) (edited_here n nothing x below after e) ∙ sym (edited_here n nothing now (restyled styles below) (restyled styles after) e)
    at false e b a = ap (restyled styles) (edited_not n nothing x below after e) ∙ (λ i. tree now (b i) (a i)) ∙ sym (edited_not n nothing now (restyled styles below) (restyled styles after) e)

pub restyled_moved : (styles : Styles) (n p : NodeId) (i : ℕ) (t : NodeTrees) → restyled styles (moved n p i t) ≡ moved n p i (restyled styles t)
restyled_moved styles n p i t = restyled_grafted styles p i (tree_at n t) (removed n t) ∙ (λ j. grafted p i (restyled_tree styles n t j) (restyled_removed styles n t j))

grafted_times : (p : NodeId) (i : ℕ) (new t : NodeTrees) (n : NodeId) → 1 ≤ times p t → times p t ≤ 1 → times n (grafted p i new t) ≡ times n t + times n new
grafted_times p i new t n l few = at (part_at t p) refl (part_some t p l)
  where
    at : (o : Option (Part Node)) → part_at t p ≡ o → IsSome o → times n (grafted p i new t) ≡ times n t + times n new
    at None e s = absurd cc
    at (Some q) e s = omega (arith, times_summed n (grafted p i new t), graft_summed p i new t q few e (λ x. one (same x.0 n)), times_summed n t, times_summed n new)

-- ---- what the styles below the moved node change
module _ (touched : NodeId → Bool) (marks : Word → Bool) (styles : Styles) where
  abbrev styled : NodeId → Node → Node
  styled k v = record v { style = styled_from styles k v.style }

  same_label : (f r : ℤ) (x : NodeId × Node) → HasStyle f r x.1 → HasStyle f r (styled x.0 x.1) → label_at (styled x.0 x.1) ≡ label_at x.1
  same_label f r x a b = λ i. label_of_bare (record { name = x.1.name; kind = x.1.kind; declared = x.1.declared; style = (b ∙ sym a) i })

  same_faces : (f r : ℤ) (s : NodeTrees) → AreStyled f r s → AreStyled f r (restyled styles s) → faces (mapped styled s) ≡ faces s
  same_faces f r leafless a b = refl
  same_faces f r (tree x below after) a b = λ i. sibling_of (same_label (font_of f r x.1.declared) r x a.0 b.0 i) ∷ same_faces f r after a.1.1 b.1.1 i

  equal_fonts : (a b : ℤ) → not (int_eq a b) ≡ false → a ≡ b
  equal_fonts a b e = (Decides-int_eq a b).0 (at (int_eq a b) refl e)
    where
      at : (c : Bool) → int_eq a b ≡ c → not c ≡ false → int_eq a b ≡ true
      at true q f = q
      at false q f = absurd (not_both true refl f)

  inside : (e f r : ℤ) (s : NodeTrees) → ((w : Word) → has_other_font e f r (plain_trees s) w ≡ true → marks w ≡ true) → EachNode (λ x. touched x.0 ≡ marks x.1.name) s → AreStyled e r s → AreStyled f r (restyled styles s) → StaysApart touched true styled s
  inside e f r leafless h m a b = tt
  inside e f r (tree x below after) h m a b = (
    (
      (λ c. same_label (font_of e r x.1.declared) r x a.0 (subst (λ z. HasStyle z r (styled x.0 x.1)) (sym (fonts c)) b.0)),
      (λ c. (
        ap sibling_of (same_label (font_of e r x.1.declared) r x a.0 (subst (λ z. HasStyle z r (styled x.0 x.1)) (sym (fonts c)) b.0)),
        same_faces (font_of e r x.1.declared) r below a.1.0 (subst (λ z. AreStyled z r (restyled styles below)) (sym (fonts c)) b.1.0),
      )),
    ),
    (
      inside (font_of e r x.1.declared) (font_of f r x.1.declared) r below (λ w g. h w (or_right _ _ (or_left _ _ g))) m.1.0 a.1.0 b.1.0,
      inside e f r after (λ w g. h w (or_right _ _ (or_right _ _ g))) m.1.1 a.1.1 b.1.1,
    ),
  )
    where
      fonts : touched x.0 ≡ false → font_of e r x.1.declared ≡ font_of f r x.1.declared
      fonts c = equal_fonts _ _ (at (not (int_eq (font_of e r x.1.declared) (font_of f r x.1.declared))) refl)
        where
          at : (d : Bool) → not (int_eq (font_of e r x.1.declared) (font_of f r x.1.declared)) ≡ d → not (int_eq (font_of e r x.1.declared) (font_of f r x.1.declared)) ≡ false
          at true q = absurd (not_both (touched x.0) (m.0 ∙ h x.1.name (or_left _ _ (λ i. own_name x.1.name i && q i))) c)
          at false q = q

-- ---- the change
pub each_styled : (P : NodeId × Node → Type 0) (styles : Styles) (s : NodeTrees) → ((x : NodeId × Node) (z : StyleMap) → P x → P (x.0, record x.1 { style = z })) → EachNode P s → EachNode P (restyled styles s)
each_styled P styles leafless f h = tt
each_styled P styles (tree x below after) f h = (f x (styled_from styles x.0 x.1.style) h.0, (each_styled P styles below f h.1.0, each_styled P styles after f h.1.1))

pub each_moved : (P : NodeId × Node → Type 0) (id to : NodeId) (i : ℕ) (t : NodeTrees) → EachNode P t → EachNode P (moved id to i t)
each_moved P id to i t h =
    each_edited P to (graft i (tree_at id t)) (removed id t) (λ x below p b. (p, (each_put P i (tree_at id t) below (each_tree id P t h) b, tt)))
    (each_edited P id nothing t (λ x below p b. tt) h)

-- subgrids feel the change, so that nothing is asked of the values of a node that stood there
from_styled : (ts : List NodeId) (t : NodeTrees) (x : NodeId × Node) (z : StyleMap) → IsFrom ts true t x → IsFrom ts true t (x.0, record x.1 { style = z })
from_styled ts t x z (inl new) = inl new
from_styled ts t x z (inr old) = inr (old.0, (old.1.0, (old.1.1.0, (old.1.1.1.0, (old.1.1.1.1.0, (old.1.1.1.1.1.0, (old.1.1.1.1.1.1.0, λ f. absurd (not_both true refl f))))))))

left_faces : (styles : Styles) (s : NodeTrees) → ((j : ℕ) (top : NodeId × Part Node) → slice_get (tops s) j ≡ Some top → (z : StyleMap) → styled_from styles top.0 z ≡ z) → faces (restyled styles s) ≡ faces s
left_faces styles leafless h = refl
left_faces styles (tree x below after) h =
    λ i. sibling_of (label_of_bare (record { name = x.1.name; kind = x.1.kind; declared = x.1.declared; style = h 0 (x.0, (x.1, below)) refl x.1.style i })) ∷ left_faces styles after (λ j top e. h (suc j) top e) i

module _ (t u : NodeTrees) (d : IsDistinct t) (one : count_of t ≡ 1) (old : IsStyled t) (name parent : Word) (index : ℕ) (ts : List NodeId) (h : Shifts name parent index t u) where
  abbrev plain : Trees Label
  plain = plain_trees t

  abbrev shift_marks : Word → Bool
  shift_marks w = bytes_eq w name || (bytes_eq w parent || (is_parent plain name w || gets_other_font (font_in name plain) (font_in parent plain) (root_font_in plain) (doc.tree_at name plain) w))

  abbrev shift_touched : NodeId → Bool
  shift_touched n = is_among n ts

  abbrev lot : NodeTrees
  lot = tree_at h.id t

  abbrev new_styles : NodeTrees
  new_styles = restyled h.styles t

  module _ (before : EachNode (λ x. is_among x.0 ts ≡ shift_marks x.1.name) t) (q : Part Node) (e : part_at t h.id ≡ Some q) where
    itself : shift_touched h.id ≡ true
    itself = touched_number t name h.id ts shift_marks before h.apart.found (or_left (bytes_eq name name) _ (own_name name))

    upper : shift_touched h.to ≡ true
    upper = touched_number t parent h.to ts shift_marks before h.apart.onto (or_right (bytes_eq parent name) _ (or_left (bytes_eq parent parent) _ (own_name parent)))

    up : (k : NodeId) (j : ℕ) → child_at t k j ≡ Some h.id → shift_touched k ≡ true
    up = touched_parent t name h.id ts shift_marks before h.apart.found.tells (λ w g. or_right (bytes_eq w name) _ (or_right (bytes_eq w parent) _ (or_left _ _ g)))

    lot_is : lot ≡ tree (h.id, q.0) q.1 leafless
    lot_is = tree_is h.id t q (d h.id) e

    -- below the moved node
    own : HasOwn h.id (root_font_of t) q (λ f. HasFont f h.id t)
    own = own_font h.id q t one d e old

    abbrev new_font : ℤ
    new_font = font_of h.under.font (root_font_of t) q.0.declared

    new_below : AreStyled new_font (root_font_of t) (restyled h.styles q.1)
    new_below = (subst (λ s. AreStyled h.under.font (root_font_of t) (restyled h.styles s)) lot_is h.under.new.styled).1.0

    told : (w : Word) → gets_other_font (font_in name plain) (font_in parent plain) (root_font_in plain) (doc.tree_at name plain) w ≡ has_other_font own.font new_font (root_font_of t) (plain_trees q.1) w
    told w =
        let f = font_named t name h.id own.font one h.apart.found.tells (omega (arith, h.apart.found.once)) own.has in
        let g = font_named t parent h.to h.under.font one h.apart.onto.tells (omega (arith, h.apart.onto.once)) h.under.has in
        let k = found_tree t name h.id q h.apart.found e in
        λ i. gets_other_font (f i) (g i) (root_named t i) (k i) w

    apart_below : StaysApart shift_touched true (styled shift_touched shift_marks h.styles) q.1
    apart_below =
        inside shift_touched shift_marks h.styles own.font new_font (root_font_of t) q.1 (λ w g. or_right (bytes_eq w name) _ (or_right (bytes_eq w parent) _ (or_right _ _ (told w ∙ g))))
        (subst (EachNode (λ x. is_among x.0 ts ≡ shift_marks x.1.name)) lot_is (each_tree h.id (λ x. is_among x.0 ts ≡ shift_marks x.1.name) t before)).1.0 own.below new_below

    -- outside
    not_in_lot : (n : NodeId) (j : ℕ) (top : NodeId × Part Node) (p : Part Node) → part_at t n ≡ Some p → shift_touched n ≡ false → times n lot ≡ 0 → slice_get (tops p.1) j ≡ Some top → times top.0 lot ≡ 0
    not_in_lot n j top p f calm z g = at (times top.0 lot) refl (same h.id top.0) refl
      where
        child : child_at t n j ≡ Some top.0
        child = ap (λ o. number_of (slice_get (tops (below_of o)) j)) f ∙ ap number_of g

        at : (m : ℕ) → times top.0 lot ≡ m → (c : Bool) → same h.id top.0 ≡ c → times top.0 lot ≡ 0
        at zero r c k = r
        at (suc m) r true k = absurd (not_both (shift_touched n) (up n j (child ∙ ap Some (sym (same_is h.id top.0 k)))) calm)
        at (suc m) r false k =
            let way : is_among h.id (way_up t top.0) ≡ true = within_way t h.id top.0 q e (d top.0) (omega (arith, r, ap (times top.0) lot_is)) in
            let not : same top.0 h.id ≡ false = turned top.0 h.id k in
            let above : is_among h.id (way_up t n) ≡ true = sym (ap (is_among h.id) (child_way t n top.0 j d child) ∙ ap (λ b. b || is_among h.id (way_up t n)) not) ∙ way in
            absurd (omega (arith, z, way_in t h.id n (d h.id) (part_there t n (ap is_some f)) above))
          where
            turned : (a b : NodeId) → same b a ≡ false → same a b ≡ false
            turned a b g = by (same a b) refl
              where
                by : (c : Bool) → same a b ≡ c → same a b ≡ false
                by true c = absurd (not_both (same b a) (same_from b a (sym (same_is a b c))) g)
                by false c = c

    at_number : (n : NodeId) (p : Part Node) → part_at t n ≡ Some p → AtNode shift_touched true (styled shift_touched shift_marks h.styles) n p
    at_number n p f = at (times n lot) refl (same h.id n) refl
      where
        at : (m : ℕ) → times n lot ≡ m → (c : Bool) → same h.id n ≡ c → AtNode shift_touched true (styled shift_touched shift_marks h.styles) n p
        at zero z c k =
            let label : label_at (styled shift_touched shift_marks h.styles n p.0) ≡ label_at p.0 = (λ i. label_of_bare (record { name = p.0.name; kind = p.0.kind; declared = p.0.declared; style = h.under.new.apart n z p.0.style i })) in
            (λ calm. label, λ calm. (ap sibling_of label, left_faces h.styles p.1 (λ j top g z2. h.under.new.apart top.0 (not_in_lot n j top p f calm z g) z2)))
        at (suc m) z true k =
            let mine : shift_touched n ≡ true = ap shift_touched (sym (same_is h.id n k)) ∙ itself in
            (λ calm. absurd (not_both (shift_touched n) mine calm), λ calm. absurd (not_both (shift_touched n) mine calm))
        at (suc m) z false k =
            at_node shift_touched true (styled shift_touched shift_marks h.styles) q.1 n p apart_below
            (sym (part_within t h.id n q e (d n) (omega (arith, z, ap (times n) lot_is, one_no (same h.id n) k))) ∙ f)

    first : IsLocal shift_touched true (bare t) (bare new_styles)
    first = values_at shift_touched true (styled shift_touched shift_marks h.styles) t at_number

    there : 1 ≤ times h.to (removed h.id new_styles)
    there = omega (arith, ap (times h.to) (restyled_removed h.styles h.id t), times_mapped (styled shift_touched shift_marks h.styles) h.to (removed h.id t), once_left t name parent h.id h.to h.apart)

    then_ : IsLocal shift_touched true (bare new_styles) (bare (moved h.id h.to index new_styles))
    then_ =
        move_local shift_touched h.id h.to index new_styles (distinct_mapped (styled shift_touched shift_marks h.styles) t d) itself (λ k j g. up k j (sym (child_mapped (styled shift_touched shift_marks h.styles) t k j) ∙ g)) upper there
        (styled shift_touched shift_marks h.styles h.id q.0, restyled h.styles q.1) (part_mapped (styled shift_touched shift_marks h.styles) t h.id ∙ ap (part_by (styled shift_touched shift_marks h.styles) h.id) e)

    stays : (n : NodeId) → IsLive (bare new_styles) n → IsLive (bare (moved h.id h.to index new_styles)) n
    stays n live =
        live_bare (moved h.id h.to index new_styles) n
        ∙ part_some (moved h.id h.to index new_styles) n (omega (arith, all, parts_times n h.id new_styles, grafted_times h.to index (tree_at h.id new_styles) (removed h.id new_styles) n there (omega (arith, few h.to, parts_times h.to h.id new_styles))))
      where
        all : 1 ≤ times n new_styles
        all = part_there new_styles n (sym (live_bare new_styles n) ∙ live)

        few : (k : NodeId) → times k new_styles ≤ 1
        few = distinct_mapped (styled shift_touched shift_marks h.styles) t d

    shift_at : IsChange ts true shift_marks t u
    shift_at =
        record {
          local = subst (λ b. IsLocal shift_touched true (bare t) (bare b)) (sym (h.is ∙ restyled_moved h.styles h.id h.to index t))
              (composed shift_touched true (bare t) (bare new_styles) (bare (moved h.id h.to index new_styles)) first then_ stays);
          before = before;
          after = subst (EachNode (λ x. is_among x.0 ts ≡ shift_marks x.1.name)) (sym h.is) (each_styled (λ x. is_among x.0 ts ≡ shift_marks x.1.name) h.styles (moved h.id h.to index t) (λ x z p. p) (each_moved (λ x. is_among x.0 ts ≡ shift_marks x.1.name) h.id h.to index t before));
          nodes = subst (EachNode (IsFrom ts true t)) (sym h.is) (each_styled (IsFrom ts true t) h.styles (moved h.id h.to index t) (from_styled ts t) (each_moved (IsFrom ts true t) h.id h.to index t (own_nodes ts true t d)));
        }

  pub shift_change : EachNode (λ x. is_among x.0 ts ≡ shift_marks x.1.name) t → IsChange ts true shift_marks t u
  shift_change before = at (part_at t h.id) refl h.apart.found.live
    where
      at : (o : Option (Part Node)) → part_at t h.id ≡ o → IsSome o → IsChange ts true shift_marks t u
      at None f l = absurd cc
      at (Some q) f l = shift_at before q f
