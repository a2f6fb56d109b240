-- The boxes of a valid document have names that differ.
use Rattle.std.proofs.Common.{◌≡◌, refl, ap, sym, subst, ◌∙◌, ℕ, ℤ, Bool, true, false, ◌||◌, List, [], ◌∷◌, ◌++◌, map, None, Some, append-nil, if◌then◌else◌}
use Rattle.std.proofs.lemmas.Bool.{true≢false}
use Rattle.std.specs.Prelude.{⊤}
use Rattle.std.specs.Str.{bytes_eq}
use Rattle.std.proofs.lemmas.Slice.Eq.{bytes_eq-Decides}
use Rattle.std.proofs.lemmas.List.{map-append}
use Rattle.plain_tree.specs.Trees.{Trees, leafless, labels_of, tree}
use Rattle.doc_text.specs.declared.document.Doc.{Doc}
use Rattle.doc_text.specs.Growth.{holds}
use Rattle.doc_text.specs.Label.{Label}
use Rattle.doc_text.specs.Named.{IsDistinct}
use Rattle.doc_text.specs.Valid.{IsValid}
use Rattle.doc_text.specs.View.{label_of}
use Rattle.style_types.specs.Computed.{font_of}
use Rattle.tree_rules.specs.Boxes.{names_of, names_told}
use Rattle.tree_rules.specs.Documents.{computed_label, root_font}
use Rattle.tree_rules.specs.Labels as rules
use Rattle.tree_rules.proofs.Told.{each_named}
use Rattle.page_tree.specs.Boxes.{declared_of}
use Rattle.session.specs.Boxes.{boxes_of}
use Rattle.session.specs.Printing.{Box}
use Rattle.session.proofs.FewBoxes.{bare_leaf, bare_leaves, seen_below}
use Rattle.open_document.specs.Apart.{AreApart}
use Rattle.open_document.specs.Changed.{rect_in}

-- ---- names in a list

abbrev has_name : List (List ℕ) → List ℕ → Bool
has_name [] name = false
has_name (other ∷ names) name = bytes_eq other name || has_name names name

abbrev Differ : List (List ℕ) → Type 0
Differ [] = ⊤
Differ (name ∷ names) = (has_name names name ≡ false) × Differ names

or_none : (a b : Bool) → (a || b) ≡ false → (a ≡ false) × (b ≡ false)
or_none true b e = absurd (true≢false e)
or_none false b e = (refl, e)

both_none : (a b : Bool) → a ≡ false → b ≡ false → (a || b) ≡ false
both_none true b e f = e
both_none false b e f = f

or_through : (a b c : Bool) → (a || (b || c)) ≡ ((a || b) || c)
or_through true b c = refl
or_through false b c = refl

has_append : (xs ys : List (List ℕ)) (name : List ℕ) → has_name (xs ++ ys) name ≡ (has_name xs name || has_name ys name)
has_append [] ys name = refl
has_append (x ∷ xs) ys name = ap (λ (b : Bool). bytes_eq x name || b) (has_append xs ys name) ∙ or_through (bytes_eq x name) (has_name xs name) (has_name ys name)

differ_append : (xs ys : List (List ℕ)) → Differ xs → Differ ys → ((name : List ℕ) → has_name xs name ≡ true → has_name ys name ≡ false) → Differ (xs ++ ys)
differ_append [] ys d e apart = e
differ_append (x ∷ xs) ys d e apart = (
  has_append xs ys x ∙ both_none (has_name xs x) (has_name ys x) d.0 (apart x (ap (λ (b : Bool). b || has_name xs x) ((bytes_eq-Decides x x).1 refl))),
  differ_append xs ys d.1 e (λ name h. apart name (or_later (bytes_eq x name) (has_name xs name) h)),
)
  where
    or_later : (a b : Bool) → b ≡ true → (a || b) ≡ true
    or_later true b e = refl
    or_later false b e = e

-- ---- the names of a tree

module _ (root : ℤ) where
  has_held : (parent : ℤ) (t : Trees Label) (name : List ℕ) → has_name (names_of (seen_below parent root t)) name ≡ holds t name
  has_held parent leafless name = refl
  has_held parent (tree x below after) name =
      let font = font_of parent root x.style in
      ap (λ (l : List (List ℕ)). bytes_eq x.name name || has_name l name) (map-append (λ (y : rules.Label). y.name) (labels_of (seen_below font root below)) (labels_of (seen_below parent root after)))
      ∙ ap (λ (b : Bool). bytes_eq x.name name || b) (has_append (names_of (seen_below font root below)) (names_of (seen_below parent root after)) name)
      ∙ (λ i. bytes_eq x.name name || (has_held font below name i || has_held parent after name i))

  all_differ : (parent : ℤ) (t : Trees Label) → IsDistinct t → Differ (names_of (seen_below parent root t))
  all_differ parent leafless d = tt
  all_differ parent (tree x below after) d =
      let font = font_of parent root x.style in
      let parts : names_of (seen_below parent root (tree x below after)) ≡ x.name ∷ names_of (seen_below font root below) ++ names_of (seen_below parent root after) =
      ap (λ (l : List (List ℕ)). x.name ∷ l) (map-append (λ (y : rules.Label). y.name) (labels_of (seen_below font root below)) (labels_of (seen_below parent root after))) in
      subst Differ (sym parts) (
        has_append (names_of (seen_below font root below)) (names_of (seen_below parent root after)) x.name
            ∙ both_none (has_name (names_of (seen_below font root below)) x.name) (has_name (names_of (seen_below parent root after)) x.name) (has_held font below x.name ∙ d.0) (has_held parent after x.name ∙ d.1.0),
        differ_append (names_of (seen_below font root below)) (names_of (seen_below parent root after)) (all_differ font below d.1.1.1.0) (all_differ parent after d.1.1.1.1)
            (λ name h. has_held parent after name ∙ d.1.1.0 name (sym (has_held font below name) ∙ h)),
      )

-- ---- boxes

absent : (boxes : List Box) (name : List ℕ) → has_name (names_told boxes) name ≡ false → rect_in boxes name ≡ None
absent [] name e = refl
absent (box ∷ boxes) name e =
    let none = or_none (bytes_eq box.0 name) (has_name (names_told boxes) name) e in
    ap (λ (b : Bool). if b then Some box.1 else rect_in boxes name) none.0 ∙ absent boxes name none.1

apart_by_names : (boxes : List Box) → Differ (names_told boxes) → AreApart boxes
apart_by_names [] d = tt
apart_by_names (box ∷ boxes) d = (absent boxes box.0 d.0, apart_by_names boxes d.1)

module _ (doc : Doc) (valid : IsValid doc) where
  font : ℤ
  font = root_font (declared_of (label_of doc.root))

  abbrev whole : Trees rules.Label
  whole = tree (computed_label font font (declared_of (label_of doc.root))) (seen_below font font doc.root.children) leafless

  each_told : names_told (boxes_of doc) ≡ names_of whole
  unfolding boxes_of font
  each_told =
      let bare = valid.shaped.containers in
      each_named doc.width doc.height (computed_label font font (declared_of (label_of doc.root))) (seen_below font font doc.root.children)
      (bare_leaf doc.root.kind font font doc.root.children bare.0, (bare_leaves font font doc.root.children bare.1.0, tt))

  whole_differ : Differ (names_of whole)
  whole_differ =
      let d = valid.shaped.distinct in
      let below = names_of (seen_below font font doc.root.children) in
      let parts : names_of whole ≡ doc.root.name ∷ below = ap (λ (l : List rules.Label). doc.root.name ∷ map (λ (y : rules.Label). y.name) l) (append-nil (labels_of (seen_below font font doc.root.children))) in
      subst Differ (sym parts) (has_held font font doc.root.children doc.root.name ∙ d.0, all_differ font font doc.root.children d.1.1.1.0)

  pub boxes_apart : AreApart (boxes_of doc)
  boxes_apart = apart_by_names (boxes_of doc) (subst Differ (sym each_told) whole_differ)
