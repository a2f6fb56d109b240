-- Generated documents and edits, worked by hand. They hold by computation.
use Rattle.std.specs.Prelude.{◌≡◌, refl, ℕ, zero, suc, ◌+◌, List, [], ◌∷◌}
use Rattle.plain_tree.specs.Trees.{leafless, tree, map_trees}
use Rattle.doc_text.specs.declared.edit.Edit.{Edit}
use Rattle.doc_text.specs.Edits.{tree_of}
use Rattle.page_maker.specs.declared.choice.Choice.{Choice}
use Rattle.page_maker.specs.declared.choice.Choice.TheVariants as choice
use Rattle.page_maker.specs.Draws.{stepped, drawn}
use Rattle.page_maker.specs.Choices.{fixed_from, words_from, leaf_from, chosen}
use Rattle.page_maker.specs.Nodes.{name_of}
use Rattle.page_maker.specs.Growing.{grown}
use Rattle.page_maker.specs.Making.{states, last_state, label_at, document_with, made_document}
use Rattle.page_maker.specs.Scripts.{order_edit, content_edit, edit_of_node, edit_from}

-- ---- draws

first_state : stepped 1 ≡ 7806831264735756412
unfolding stepped
first_state = refl

-- the seed is not cut
last_seed : stepped 18446744073709551615 ≡ 13525302890751722018
unfolding stepped
last_seed = refl

first_draw : drawn 50 13525302890751722018 ≡ 38
unfolding drawn
first_draw = refl

-- ---- what the nodes are

-- what so many nodes are, from node i on
abbrev choices : ℕ → ℕ → ℕ → ℕ → List Choice
choices zero nodes i x = []
choices (suc count) nodes i x = (chosen nodes i x).0 ∷ choices count nodes (i + 1) (chosen nodes i x).1

alone : choices 1 1 0 1 ≡ choice.Root ∷ []
unfolding stepped drawn fixed_from words_from leaf_from chosen
alone = refl

two_nodes : choices 2 2 0 1 ≡ choice.Root ∷ choice.Fixed 4 7 ∷ []
unfolding stepped drawn fixed_from words_from leaf_from chosen
two_nodes = refl

nine_nodes : choices 9 9 0 7 ≡
    choice.Root ∷ choice.Fixed 32 4 ∷ choice.Words 30 24 29 9 24 ∷ choice.Fixed 46 16 ∷ choice.Fixed 31 10 ∷ choice.Fixed 6 10 ∷
    choice.Fixed 2 17 ∷ choice.Words 19 23 18 29 5 ∷ choice.Words 18 37 37 42 35 ∷ []
unfolding stepped drawn fixed_from words_from leaf_from chosen
nine_nodes = refl

ten_nodes : choices 10 10 0 7 ≡
    choice.Root ∷ choice.Columns ∷ choice.Words 38 38 30 24 29 ∷ choice.Fixed 40 17 ∷ choice.Words 40 37 5 34 7 ∷ choice.Words 24 41 36 21 38 ∷
    choice.Fixed 49 24 ∷ choice.Fixed 41 6 ∷ choice.Words 37 37 42 35 40 ∷ choice.Words 24 14 32 17 37 ∷ []
unfolding stepped drawn fixed_from words_from leaf_from chosen
ten_nodes = refl

ten_lent : choices 10 10 0 1000000000000003 ≡
    choice.Root ∷ choice.Lent ∷ choice.Words 10 27 27 14 11 ∷ choice.Fixed 3 7 ∷ choice.Fixed 9 12 ∷ choice.Fixed 1 28 ∷ choice.Fixed 25 20 ∷
    choice.Words 43 29 26 26 41 ∷ choice.Words 27 33 28 43 35 ∷ choice.Fixed 25 19 ∷ []
unfolding stepped drawn fixed_from words_from leaf_from chosen
ten_lent = refl

ten_wrapping : choices 10 10 0 2 ≡
    choice.Root ∷ choice.Wrapping ∷ choice.Fixed 7 15 ∷ choice.Words 24 33 43 30 7 ∷ choice.Words 7 39 39 21 39 ∷ choice.Fixed 14 27 ∷
    choice.Words 37 43 9 39 10 ∷ choice.Fixed 20 13 ∷ choice.Words 32 43 17 18 11 ∷ choice.Words 14 22 9 21 9 ∷ []
unfolding stepped drawn fixed_from words_from leaf_from chosen
ten_wrapping = refl

-- ---- the tree

root_alone : map_trees (λ x. x.name) (tree_of (made_document 1 1)) ≡ tree (name_of 0) leafless leafless
unfolding states label_at document_with made_document grown
root_alone = refl

one_child : map_trees (λ x. x.name) (tree_of (made_document 1 2)) ≡ tree (name_of 0) (tree (name_of 1) leafless leafless) leafless
unfolding states label_at document_with made_document grown
one_child = refl

eight_children : map_trees (λ x. x.name) (tree_of (made_document 7 9)) ≡
    tree (name_of 0)
    (tree (name_of 1) leafless
    (tree (name_of 2) leafless
    (tree (name_of 3) leafless
    (tree (name_of 4) leafless
    (tree (name_of 5) leafless (tree (name_of 6) leafless (tree (name_of 7) leafless (tree (name_of 8) leafless leafless)))))))) leafless
unfolding states label_at document_with made_document grown
eight_children = refl

child_of_first : map_trees (λ x. x.name) (tree_of (made_document 7 10)) ≡
    tree (name_of 0)
    (tree (name_of 1) (tree (name_of 9) leafless leafless)
    (tree (name_of 2) leafless
    (tree (name_of 3) leafless
    (tree (name_of 4) leafless
    (tree (name_of 5) leafless (tree (name_of 6) leafless (tree (name_of 7) leafless (tree (name_of 8) leafless leafless)))))))) leafless
unfolding states label_at document_with made_document grown
child_of_first = refl

-- ---- the edits

abbrev edits : ℕ → ℕ → ℕ → List Edit
edits zero nodes x = []
edits (suc count) nodes x = (edit_from nodes x).0 ∷ edits count nodes (edit_from nodes x).1

edits_of_root : edits 8 1 (last_state 1 1) ≡
    order_edit 0 3 ∷ order_edit 0 0 ∷ order_edit 0 0 ∷ order_edit 0 2 ∷ order_edit 0 1 ∷ order_edit 0 2 ∷ order_edit 0 0 ∷ order_edit 0 2 ∷ []
unfolding stepped drawn fixed_from words_from leaf_from chosen last_state edit_of_node edit_from
edits_of_root = refl

edits_of_two : edits 8 2 (last_state 1 2) ≡
    order_edit 0 4 ∷ content_edit 1 31 23 ∷ content_edit 1 47 4 ∷ order_edit 0 2 ∷ order_edit 0 4 ∷ order_edit 0 0 ∷ content_edit 1 33 16 ∷
    content_edit 1 8 27 ∷ []
unfolding stepped drawn fixed_from words_from leaf_from chosen last_state edit_of_node edit_from
edits_of_two = refl

edits_of_ten : edits 8 10 (last_state 7 10) ≡
    content_edit 5 36 29 ∷ order_edit 0 0 ∷ content_edit 4 5 15 ∷ content_edit 6 41 3 ∷ content_edit 4 8 9 ∷ content_edit 4 2 29 ∷
    content_edit 6 7 14 ∷ content_edit 9 34 24 ∷ []
unfolding stepped drawn fixed_from words_from leaf_from chosen last_state edit_of_node edit_from
edits_of_ten = refl
