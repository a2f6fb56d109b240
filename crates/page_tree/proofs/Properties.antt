-- Other values and another kind of a node, as changes of the numbered tree.
use Rattle.std.proofs.Common.{◌≡◌, ℤ, Bool, true, false, not, ◌&&◌, List, [], ◌∷◌, map, Option, Some, None, IsSome, cond, refl, sym, ap, ◌∙◌, inl, inr}
use Rattle.std.specs.Prelude.{◌||◌, ◌⊎◌}
use Rattle.std.specs.FinMap as finmap
use Rattle.std.specs.List.{list_any}
use Rattle.std.specs.Option.{option_map, unwrap_or}
use Rattle.std.specs.Ordering.{eq_by_cmp}
use Rattle.std.specs.Str.{bytes_eq}
use Rattle.std.proofs.lemmas.Bool.{and_parts, or_left, or_parts, or_right}
use Rattle.std.proofs.lemmas.Map.Views.{tells_apart}
use Rattle.plain_tree.specs.Trees.{leafless, tree, count_of}
use Rattle.node_arena.specs.declared.number.NodeId.{NodeId}
use Rattle.node_arena.specs.Numbers.{EachNode, IsDistinct, Part, below_at, below_of, is_among, part_at, same, value_at, value_of}
use Rattle.node_arena.proofs.Same.{by_place, part_after, part_below, part_here, part_some, same_refl}
use Rattle.style_types.proofs.Computing.{get_computed}
use Rattle.style_types.specs.Computed.{DeclaredMap, computed_style, computed_value, font_or}
use Rattle.style_types.specs.Order.{prop_cmp, prop_cmp_total, prop_cmp-IsAntisymmetric}
use Rattle.style_types.specs.Styles.{StyleMap, value_of as value_in}
use Rattle.style_types.specs.Table.{class_in_table, initial}
use Rattle.style_types.specs.declared.declared.DeclaredValue.{DeclaredValue}
use Rattle.style_types.specs.declared.prop.Class.{Class}
use Rattle.style_types.specs.declared.prop.Class.TheVariants as class
use Rattle.style_types.specs.declared.prop.Prop.{Prop}
use Rattle.style_types.specs.declared.prop.Prop.TheVariants as prop
use Rattle.tree_rules.specs.Chains.{is_grid_kind, sibling_of}
use Rattle.tree_rules.specs.Labels.{areas_in, flow_in, grid_of, length_in, line_in, margin_in, order_in, plain_axis, plain_grid, size_in, sizes_in, template_in}
use Rattle.doc_text.specs.declared.kind.Kind.{Kind}
use Rattle.doc_text.specs.declared.kind.Kind.TheVariants as kind
use Rattle.doc_text.specs.Documents.{is_leaf}
use Rattle.doc_text.specs.Edits.{is_leaf_top, with_kind}
use Rattle.doc_text.specs.Growth.{holds}
use Rattle.doc_text.specs.Label.{Label}
use Rattle.doc_text.specs.Named as doc
use Rattle.edit_journal.specs.Changes.{Values, with_style, with_value, with_values}
use Rattle.doc_text.specs.Texts.{Word}
use Rattle.doc_text.proofs.Grown.{own_name}
use Rattle.placing.specs.declared.node.Node.{Node}
use Rattle.placing.specs.Keeping.{standing_by, standing_of}
use Rattle.placing.specs.Nodes.{NodeTrees, label_of_bare}
use Rattle.reach_frame.proofs.Forests.{AreParts, below_parts}
use Rattle.reach_frame.proofs.Frame.{not_both}
use Rattle.reach_frame.proofs.Values.{label_at}
use Rattle.page_tree.specs.Documents.{kind_of, label_of, plain_trees}
use Rattle.page_tree.specs.Fonts.{IsStyled}
use Rattle.page_tree.specs.Reach.{are_felt, are_placing, have_font, is_container, is_content_class, is_felt_property, is_font_class, is_font_property, is_grid, is_marked_by, is_parent, is_placing_property}
use Rattle.page_tree.specs.Shapes.{Relabels}
use Rattle.page_tree.proofs.Locals.{both, touched_parent}
use Rattle.page_tree.proofs.Lookups.{found_leaf, found_tree}
use Rattle.page_tree.proofs.Reaching.{AreSettled, IsChange, each_at}
use Rattle.page_tree.proofs.Relabels.{AllBelow, SameFace, SameFonts, SameStanding, relabel_change, relabel_settled}
use Rattle.page_tree.proofs.Subgrids.{kind_grid}

-- ---- properties that are left
module _ (f : Prop → Bool) (p : Prop) (here : f p ≡ true) where
  apart : (q : Prop) → f q ≡ false → eq_by_cmp prop_cmp p q ≡ false
  apart q none = at (eq_by_cmp prop_cmp p q) refl
    where
      at : (b : Bool) → eq_by_cmp prop_cmp p q ≡ b → eq_by_cmp prop_cmp p q ≡ false
      at true e = absurd (not_both (f p) here (ap f (tells_apart prop_cmp-IsAntisymmetric p q e) ∙ none))
      at false e = e

  one_left : (q : Prop) (o : Option DeclaredValue) (m : DeclaredMap) → f q ≡ false → finmap.get (with_value q o m) p ≡ finmap.get m p
  one_left q None m none = finmap.get-remove prop_cmp_total m q p ∙ ap (λ b. cond b None (finmap.get m p)) (apart q none)
  one_left q (Some v) m none = finmap.get-insert prop_cmp_total m q v p ∙ ap (λ b. cond b (Some v) (finmap.get m p)) (apart q none)

  pub values_left : (values : Values) (m : DeclaredMap) → list_any f (map (λ v. v.0) values) ≡ false → finmap.get (with_values values m) p ≡ finmap.get m p
  values_left [] m h = refl
  values_left (v ∷ values) m h =
      let parts = or_parts (f v.0) (list_any f (map (λ v. v.0) values)) h in
      values_left values (with_value v.0 v.1 m) parts.1 ∙ one_left v.0 v.1 m parts.0

-- where grid-class values are the same
pub grid_by : (a b : StyleMap) → ((p : Prop) → is_felt_property p ≡ true → value_in a p ≡ value_in b p) → grid_of a ≡ grid_of b
grid_by a b h =
    λ i. record {
      columns = record {
        template = template_in (h prop.GridTemplateColumns refl i);
        autos = sizes_in (h prop.GridAutoColumns refl i);
        start_line = line_in (h prop.GridColumnStart refl i);
        end_line = line_in (h prop.GridColumnEnd refl i);
        gap = size_in (h prop.ColumnGap refl i);
        margin_start = margin_in (h prop.MarginLeft refl i);
        margin_end = margin_in (h prop.MarginRight refl i);
        border_start = length_in (h prop.BorderLeftWidth refl i);
        border_end = length_in (h prop.BorderRightWidth refl i);
        padding_start = length_in (h prop.PaddingLeft refl i);
        padding_end = length_in (h prop.PaddingRight refl i);
      };
      rows = record {
        template = template_in (h prop.GridTemplateRows refl i);
        autos = sizes_in (h prop.GridAutoRows refl i);
        start_line = line_in (h prop.GridRowStart refl i);
        end_line = line_in (h prop.GridRowEnd refl i);
        gap = size_in (h prop.RowGap refl i);
        margin_start = margin_in (h prop.MarginTop refl i);
        margin_end = margin_in (h prop.MarginBottom refl i);
        border_start = length_in (h prop.BorderTopWidth refl i);
        border_end = length_in (h prop.BorderBottomWidth refl i);
        padding_start = length_in (h prop.PaddingTop refl i);
        padding_end = length_in (h prop.PaddingBottom refl i);
      };
      areas = areas_in (h prop.GridTemplateAreas refl i);
      column_flow = (flow_in (h prop.GridAutoFlow refl i)).0;
      dense = (flow_in (h prop.GridAutoFlow refl i)).1;
      order = order_in (h prop.Order refl i);
    }

-- where what areas depend on is the same
pub lines_by : (a b : StyleMap) → ((p : Prop) → is_placing_property p ≡ true → value_in a p ≡ value_in b p) → standing_by (grid_of a) ≡ standing_by (grid_of b)
lines_by a b h =
    λ i. record plain_grid {
      columns = record plain_axis {
        template = template_in (h prop.GridTemplateColumns refl i);
        start_line = line_in (h prop.GridColumnStart refl i);
        end_line = line_in (h prop.GridColumnEnd refl i);
      };
      rows = record plain_axis {
        template = template_in (h prop.GridTemplateRows refl i);
        start_line = line_in (h prop.GridRowStart refl i);
        end_line = line_in (h prop.GridRowEnd refl i);
      };
      order = order_in (h prop.Order refl i);
    }

-- computed values are the same where declared ones are
computed_left : (f r : ℤ) (a b : DeclaredMap) (p : Prop) → finmap.get a p ≡ finmap.get b p → value_in (computed_style f r a) p ≡ value_in (computed_style f r b) p
computed_left f r a b p e =
    ap (λ o. unwrap_or o (initial p)) (get_computed f r a p) ∙ ap (λ o. unwrap_or (option_map (computed_value f r) o) (initial p)) e ∙ sym (ap (λ o. unwrap_or o (initial p)) (get_computed f r b p))

-- what a parent sees of a node
face_of : (a b : Node) → a.name ≡ b.name → is_grid_kind a.kind ≡ is_grid_kind b.kind → grid_of a.style ≡ grid_of b.style → sibling_of (label_at a) ≡ sibling_of (label_at b)
unfolding label_of_bare
face_of a b n k g = λ i. record { name = n i; is_grid = k i; grid = g i }

-- what areas depend on of a node
standing_is : (a b : Node) → is_grid_kind a.kind ≡ is_grid_kind b.kind → standing_by (grid_of a.style) ≡ standing_by (grid_of b.style) → standing_of (sibling_of (label_at a)) ≡ standing_of (sibling_of (label_at b))
unfolding label_of_bare
standing_is a b k g = λ i. record { name = []; is_grid = k i; grid = g i }

-- ---- names of nodes that stand below
holds_at : (s : NodeTrees) (k : NodeId) (v : Node) → value_at s k ≡ Some v → holds (plain_trees s) v.name ≡ true
holds_at leafless k v e = absurd cc
holds_at (tree x below after) k v e =
    by_place x below k
    (λ h. or_left _ _ (ap (λ (w : Node). bytes_eq w.name v.name) (some_node x.1 v (ap value_of (sym (part_here x below after k h)) ∙ e)) ∙ own_name v.name))
    (λ h. or_right _ _ (or_left _ _ (holds_at below k v (ap value_of (sym (part_below x below after k h)) ∙ e))))
    (λ h. or_right _ _ (or_right _ _ (holds_at after k v (ap value_of (sym (part_after x below after k h)) ∙ e))))
  where
    some_node : (a b : Node) → Some a ≡ Some b → a ≡ b
    some_node a b e = cc

parts_values : (t s : NodeTrees) → AreParts t s → EachNode (λ x. value_at t x.0 ≡ Some x.1) s
parts_values t leafless p = tt
parts_values t (tree x below after) p = (ap value_of p.0, (parts_values t below p.1.0, parts_values t after p.1.1))

any_weaker : (props : List Prop) → have_font props ≡ true → are_felt props ≡ true
any_weaker [] e = e
any_weaker (p ∷ props) e = at (is_font_property p) refl e (any_weaker props)
  where
    felt : is_font_class (class_in_table p) ≡ true → is_felt_property p ≡ true
    felt f = by (class_in_table p) refl f
      where
        by : (c : Class) → class_in_table p ≡ c → is_font_class c ≡ true → is_felt_property p ≡ true
        by class.Font q g = ap (λ c. not (is_content_class c)) q
        by class.Grid q g = absurd cc
        by class.Content q g = absurd cc

    at : (b : Bool) → is_font_property p ≡ b → (is_font_property p || have_font props) ≡ true → (have_font props ≡ true → are_felt props ≡ true) → (is_felt_property p || are_felt props) ≡ true
    at true f e more = or_left _ _ (felt f)
    at false f e more = or_right _ _ (more (sym (ap (λ b. b || have_font props) f) ∙ e))

-- ---- properties set, or no longer set
module _ (t u : NodeTrees) (d : IsDistinct t) (one : count_of t ≡ 1) (old : IsStyled t) (new : IsStyled u) (name : Word) (values : Values) (ts : List NodeId)
    (h : Relabels name (with_style values) t u) (before : EachNode (λ x. is_among x.0 ts ≡ is_marked_by (map (λ v. v.0) values) name (plain_trees t) x.1.name) t) where
  abbrev props : List Prop
  props = map (λ v. v.0) values

  abbrev marks : Word → Bool
  marks = is_marked_by props name (plain_trees t)

  abbrev touched : NodeId → Bool
  touched n = is_among n ts

  labels : (v : Node) → value_at t h.id ≡ Some v → ◌≡◌ {A = Label} (record { name = v.name; kind = kind_of v.kind; style = with_values values v.declared }) (label_of h.value)
  labels v e = each_at (λ x. same x.0 h.id ≡ true → ◌≡◌ {A = Label} (record { name = x.1.name; kind = kind_of x.1.kind; style = with_values values x.1.declared }) (label_of h.value)) t h.id v h.label e (same_refl h.id)

  declared_is : (v : Node) → value_at t h.id ≡ Some v → with_values values v.declared ≡ h.value.declared
  declared_is v e = ap (λ (l : Label). l.style) (labels v e)

  fonts_by : (f : Prop → Bool) → f prop.FontSize ≡ true → list_any f props ≡ false → SameFonts touched (are_felt props) h.id h.value h.styles t d
  fonts_by f g none em rem v e = ap (font_or em rem) (ap (λ (m : DeclaredMap). finmap.get m prop.FontSize) (sym (declared_is v e)) ∙ values_left f prop.FontSize g values v.declared none)

  face_left : are_felt props ≡ false → SameFace touched (are_felt props) h.id h.value h.styles t d
  face_left none f r v style e was is =
      face_of (record h.value { style = style }) v (sym (ap (λ (l : Label). l.name) (labels v e))) (kind_grid h.value.kind ∙ ap (λ (l : Label). is_grid l.kind) (sym (labels v e)) ∙ sym (kind_grid v.kind))
      (ap grid_of is
      ∙ grid_by (computed_style f r h.value.declared) (computed_style f r v.declared)
      (λ p felt. computed_left f r h.value.declared v.declared p (ap (λ (m : DeclaredMap). finmap.get m p) (sym (declared_is v e)) ∙ values_left is_felt_property p felt values v.declared none))
      ∙ sym (ap grid_of was))

  all_below : have_font props ≡ true → AllBelow touched (are_felt props) h.id h.value h.styles t d
  all_below font = (any_weaker props font, λ k l. at k (part_at (below_at t h.id) k) refl (part_some (below_at t h.id) k l))
    where
      by_tree : (o : Option (Part Node)) → part_at t h.id ≡ o → IsSome o → doc.below_at name (plain_trees t) ≡ plain_trees (below_of o)
      by_tree None e l = absurd cc
      by_tree (Some q) e l = ap doc.below_of (found_tree t name h.id q h.found e)

      at : (k : NodeId) (o : Option (Part Node)) → part_at (below_at t h.id) k ≡ o → IsSome o → touched k ≡ true
      at k None e l = absurd cc
      at k (Some q) e l =
          let there : value_at t k ≡ Some q.0 = each_at (λ x. value_at t x.0 ≡ Some x.1) (below_at t h.id) k q.0 (parts_values t (below_at t h.id) (below_parts t h.id d)) (ap value_of e) in
          each_at (λ x. is_among x.0 ts ≡ marks x.1.name) t k q.0 before there
          ∙ or_right (bytes_eq q.0.name name) _ (or_right (are_felt props && is_parent (plain_trees t) name q.0.name) _
          (both font (ap (λ s. holds s q.0.name) (by_tree (part_at t h.id) refl h.found.live) ∙ holds_at (below_at t h.id) k q.0 (ap value_of e))))

  pub style_change : IsChange ts (are_felt props) marks t u
  style_change =
      relabel_change t u d one old new name (with_style values) (are_felt props) ts marks h (λ l. refl) before (or_left (bytes_eq name name) _ (own_name name))
      (λ g. touched_parent t name h.id ts marks before h.found.tells (λ w e. or_right (bytes_eq w name) _ (or_left _ _ (both g e)))) face_left (at (have_font props) refl)
    where
      at : (b : Bool) → have_font props ≡ b → SameFonts touched (are_felt props) h.id h.value h.styles t d ⊎ AllBelow touched (are_felt props) h.id h.value h.styles t d
      at true e = inr (all_below e)
      at false e = inl (fonts_by is_font_property refl e)

  -- what areas depend on is the same
  standing_left : are_placing props ≡ false → SameStanding touched (are_felt props) h.id h.value h.styles t d
  standing_left none f r v style e was is =
      standing_is (record h.value { style = style }) v (kind_grid h.value.kind ∙ ap (λ (l : Label). is_grid l.kind) (sym (labels v e)) ∙ sym (kind_grid v.kind))
      (ap (λ s. standing_by (grid_of s)) is
      ∙ lines_by (computed_style f r h.value.declared) (computed_style f r v.declared)
      (λ p placing. computed_left f r h.value.declared v.declared p (ap (λ (m : DeclaredMap). finmap.get m p) (sym (declared_is v e)) ∙ values_left is_placing_property p placing values v.declared none))
      ∙ sym (ap (λ s. standing_by (grid_of s)) was))

  pub style_settled : are_placing props ≡ false → AreSettled t u
  style_settled none =
      relabel_settled t u d one old new name (with_style values) (are_felt props) ts marks h (λ l. refl) before (or_left (bytes_eq name name) _ (own_name name)) (fonts_by is_placing_property refl none) (standing_left none)

-- ---- another kind
leaf_no_grid : (k : Kind) → is_leaf k ≡ true → is_grid k ≡ false
leaf_no_grid kind.Grid e = absurd (not_both true refl (sym e))
leaf_no_grid kind.Flex e = refl
leaf_no_grid (kind.Leaf content) e = refl

not_not : (b : Bool) → not b ≡ false → b ≡ true
not_not true e = refl
not_not false e = sym e

module _ (t u : NodeTrees) (d : IsDistinct t) (one : count_of t ≡ 1) (old : IsStyled t) (new : IsStyled u) (name : Word) (other : Kind) (ts : List NodeId) (h : Relabels name (with_kind other) t u)
    (before : EachNode (λ x. is_among x.0 ts ≡ (bytes_eq x.1.name name || (is_container other name (plain_trees t) && is_parent (plain_trees t) name x.1.name))) t) where
  abbrev felt : Bool
  felt = is_container other name (plain_trees t)

  abbrev kind_marks : Word → Bool
  kind_marks w = bytes_eq w name || (felt && is_parent (plain_trees t) name w)

  abbrev kind_touched : NodeId → Bool
  kind_touched n = is_among n ts

  kind_labels : (v : Node) → value_at t h.id ≡ Some v → ◌≡◌ {A = Label} (record { name = v.name; kind = other; style = v.declared }) (label_of h.value)
  kind_labels v e = each_at (λ x. same x.0 h.id ≡ true → ◌≡◌ {A = Label} (record { name = x.1.name; kind = other; style = x.1.declared }) (label_of h.value)) t h.id v h.label e (same_refl h.id)

  kind_fonts : SameFonts kind_touched felt h.id h.value h.styles t d
  kind_fonts em rem v e = ap (λ (l : Label). font_or em rem (finmap.get l.style prop.FontSize)) (sym (kind_labels v e))

  kind_face : felt ≡ false → SameFace kind_touched felt h.id h.value h.styles t d
  kind_face none f r v style e was is =
      let leaves = and_parts (is_leaf other) (is_leaf_top (doc.tree_at name (plain_trees t))) (not_not (is_leaf other && is_leaf_top (doc.tree_at name (plain_trees t))) none) in
      let own : is_grid (kind_of v.kind) ≡ false = leaf_no_grid (kind_of v.kind) (found_leaf t name h.id v h.found (sym e) ∙ leaves.1) in
      face_of (record h.value { style = style }) v (sym (ap (λ (l : Label). l.name) (kind_labels v e)))
      (kind_grid h.value.kind ∙ ap (λ (l : Label). is_grid l.kind) (sym (kind_labels v e)) ∙ leaf_no_grid other leaves.0 ∙ sym own ∙ sym (kind_grid v.kind))
      (ap grid_of (is ∙ ap (λ (l : Label). computed_style f r l.style) (sym (kind_labels v e)) ∙ sym was))

  pub kind_change : IsChange ts felt kind_marks t u
  kind_change =
      relabel_change t u d one old new name (with_kind other) felt ts kind_marks h (λ l. refl) before (or_left (bytes_eq name name) _ (own_name name))
      (λ g. touched_parent t name h.id ts kind_marks before h.found.tells (λ w e. or_right (bytes_eq w name) _ (both g e))) kind_face (inl kind_fonts)
