-- A generated document is valid, and all its nodes are there.
use Rattle.std.proofs.Common.{◌≡◌, refl, sym, ap, subst, ◌∙◌, ℕ, ◌+◌, ◌*◌, ◌<◌, ◌≤◌, inl, Bool, true, false, ◌||◌, List, length, get_or, if◌then◌else◌, arith}
use Rattle.std.specs.Prelude.{◌==◌}
use Rattle.std.proofs.lemmas.Bool.{true≢false, ltb-false}
use Rattle.plain_tree.specs.Trees.{Trees, size_of, EachLabel}
use Rattle.doc_text.specs.declared.document.Doc.{Doc}
use Rattle.doc_text.specs.Label.{Label}
use Rattle.doc_text.specs.Growth.{holds}
use Rattle.doc_text.specs.Documents.{is_leaf}
use Rattle.doc_text.specs.Edits.{tree_of}
use Rattle.doc_text.specs.Valid.{IsTold, IsShaped, IsToldLabel, IsValid}
use Rattle.page_maker.specs.declared.choice.Choice.TheVariants as choice
use Rattle.page_maker.specs.Draws.{stepped, drawn}
use Rattle.page_maker.specs.Choices.{leaf_from, container, has_children, is_container, chosen}
use Rattle.page_maker.specs.Nodes.{name_of, kind_of}
use Rattle.page_maker.specs.Growing.{grown}
use Rattle.page_maker.specs.Making.{states, label_at, document_with, made_document}
use Rattle.page_maker.specs.Standing.{IsBare, IsMade}
use Rattle.page_maker.proofs.Chosen.{chosen_drawn}
use Rattle.page_maker.proofs.Numbers.{under_root, held_all}
use Rattle.page_maker.proofs.Grown.{each_grown, few_grown, height_grown, size_grown, containers_grown, distinct_grown, there_grown, bare_grown}
use Rattle.page_maker.proofs.States.{states_counted}
use Rattle.page_maker.proofs.Told.{width_told, height_told, label_told}

-- ---- containers

container_kind : (n : ℕ) → is_leaf (kind_of (container n)) ≡ false
container_kind n = by_number (n == 0) (n == 1)
  where
    by_number : (a b : Bool) → is_leaf (kind_of (if a then choice.Lent else if b then choice.Wrapping else choice.Columns)) ≡ false
    by_number true b = refl
    by_number false true = refl
    by_number false false = refl

-- what is chosen as a leaf has no children
leaf_chosen : (nodes i x : ℕ) → is_leaf (kind_of (chosen nodes i x).0) ≡ true → nodes ≤ 8 * i + 1
unfolding chosen
leaf_chosen nodes i x h = by_place (i == 0) (has_children nodes i) refl h
  where
    by_place : (a b : Bool) → has_children nodes i ≡ b → is_leaf (kind_of (if a then (choice.Root, x) else if b then (container (drawn 3 (stepped x)), stepped x) else leaf_from x).0) ≡ true → nodes ≤ 8 * i + 1
    by_place true b e h = absurd (true≢false (sym h))
    by_place false true e h = absurd (true≢false (sym h ∙ container_kind (drawn 3 (stepped x))))
    by_place false false e h = ltb-false (8 * i + 1) nodes e

no_children : (nodes i : ℕ) → is_container nodes i ≡ false → nodes ≤ 8 * i + 1
no_children nodes i h = ltb-false (8 * i + 1) nodes (last_false (i == 0) (has_children nodes i) h)
  where
    last_false : (a b : Bool) → (a || b) ≡ false → b ≡ false
    last_false true b h = absurd (true≢false h)
    last_false false b h = h

-- ---- the document

module _ (begins : List ℕ) (some : 0 < length begins) (few : length begins ≤ 20000) where
  whole : tree_of (document_with begins) ≡ grown (label_at begins) (length begins) 6 0 1
  unfolding document_with grown
  whole = refl

  version_is : (document_with begins).version ≡ 1
  unfolding document_with
  version_is = refl

  named : (i : ℕ) → (label_at begins i).name ≡ name_of i
  unfolding label_at
  named i = refl

  leaf_at : (i : ℕ) → is_leaf (label_at begins i).kind ≡ true → length begins ≤ 8 * i + 1
  unfolding label_at
  leaf_at i h = leaf_chosen (length begins) i (get_or begins i 0) h

  told_at : (i : ℕ) → i < length begins → IsToldLabel 1 (label_at begins i)
  unfolding label_at
  told_at i h = label_told i (chosen (length begins) i (get_or begins i 0)).0 (omega (arith, h, few)) (chosen_drawn (length begins) i (get_or begins i 0))

  pub size_with : size_of (tree_of (document_with begins)) ≡ length begins
  size_with = ap size_of whole ∙ size_grown (label_at begins) (length begins) 6 0 1 ∙ held_all (length begins) some (omega (arith, few))

  shaped : IsShaped 1 (grown (label_at begins) (length begins) 6 0 1)
  shaped =
      let size : size_of (grown (label_at begins) (length begins) 6 0 1) ≡ length begins = sym (ap size_of whole) ∙ size_with in
      record {
        distinct = distinct_grown (label_at begins) (length begins) few named 6 0 1 some (omega arith);
        containers = containers_grown (label_at begins) (length begins) leaf_at 6 0 1;
        levels = omega (arith, height_grown (label_at begins) (length begins) 6 0 1);
        nodes = omega (arith, size, few);
        children = few_grown (label_at begins) (length begins) 6 0 1;
      }

  labels : EachLabel (IsToldLabel 1) (grown (label_at begins) (length begins) 6 0 1)
  labels = each_grown (label_at begins) (length begins) (IsToldLabel 1) told_at 6 0 1 some

  width_with : IsTold (document_with begins).width
  unfolding document_with
  width_with = width_told

  height_with : IsTold (document_with begins).height
  unfolding document_with
  height_with = height_told

  valid_of : (doc : Doc) → doc.version ≡ 1 → IsShaped 1 (tree_of doc) → EachLabel (IsToldLabel 1) (tree_of doc) → doc ≡ document_with begins → IsValid doc
  valid_of doc v s l e = record {
    version = inl v;
    width = subst (λ (d : Doc). IsTold d.width) (sym e) width_with;
    height = subst (λ (d : Doc). IsTold d.height) (sym e) height_with;
    shaped = subst (λ (n : ℕ). IsShaped n (tree_of doc)) (sym v) s;
    labels = subst (λ (n : ℕ). EachLabel (IsToldLabel n) (tree_of doc)) (sym v) l;
  }

  pub valid_with : IsValid (document_with begins)
  valid_with = valid_of (document_with begins) version_is (subst (IsShaped 1) (sym whole) shaped) (subst (EachLabel (IsToldLabel 1)) (sym whole) labels) refl

  pub made_with : IsMade (length begins) (document_with begins)
  made_with = record {
    version = version_is;
    there = λ i h. ap (λ (t : Trees Label). holds t (name_of i)) whole ∙ there_grown (label_at begins) (length begins) few named 6 0 1 i some h (under_root i (omega (arith, h, few)));
    bare = λ i h c. subst (IsBare (name_of i)) (sym whole) (bare_grown (label_at begins) (length begins) few named 6 0 1 i some h (no_children (length begins) i c));
  }

-- ---- the document of a seed

module _ (seed nodes : ℕ) (some : 0 < nodes) (few : nodes ≤ 20000) where
  some_states : 0 < length (states seed nodes)
  some_states = omega (arith, states_counted seed nodes, some)

  few_states : length (states seed nodes) ≤ 20000
  few_states = omega (arith, states_counted seed nodes, few)

  pub valid_made : IsValid (made_document seed nodes)
  unfolding made_document
  valid_made = valid_with (states seed nodes) some_states few_states

  pub size_made : size_of (tree_of (made_document seed nodes)) ≡ nodes
  unfolding made_document
  size_made = size_with (states seed nodes) some_states few_states ∙ states_counted seed nodes

  pub made_made : IsMade nodes (made_document seed nodes)
  unfolding made_document
  made_made = subst (λ (n : ℕ). IsMade n (document_with (states seed nodes))) (states_counted seed nodes) (made_with (states seed nodes) some_states few_states)

-- what is made of the states is the document
pub made_of_states : (seed count : ℕ) (begins : List ℕ) (doc : Doc) → begins ≡ states seed count → doc ≡ document_with begins → doc ≡ made_document seed count
unfolding made_document
made_of_states seed count begins doc b d = d ∙ ap document_with b

pub ruleset making = (states_counted, made_of_states, valid_made, made_made)
