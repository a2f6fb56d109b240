-- The nodes of a tree, put one after another on their levels, make the tree.
use Rattle.std.proofs.Common.{◌≡◌, ℕ, zero, suc, ◌+◌, refl, ap, sym, ◌∙◌, add-one}
use Rattle.plain_tree.specs.Trees.{Trees, leafless, tree, joined}
use Rattle.plain_tree.proofs.Laws.{joined_assoc, joined-leafless}
use Rattle.doc_text.specs.Growth.{last_or, alone, put_last}

-- trees at the end of those on a level
abbrev pub join_last : {A : Type 0} → ℕ → Trees A → Trees A → Trees A
join_last zero new trees = joined trees new
join_last (suc level) new leafless = leafless
join_last (suc level) new (tree upper below after) = tree upper (last_or (join_last level new below) after below) (join_last (suc level) new after)

pub put_is : {A : Type 0} (level : ℕ) (x : A) (trees : Trees A) → put_last level x trees ≡ join_last level (alone x) trees
put_is zero x trees = refl
put_is (suc level) x leafless = refl
put_is (suc level) x (tree upper below after) = λ i. tree upper (last_or (put_is level x below i) after below) (put_is (suc level) x after i)

pub join_none : {A : Type 0} (level : ℕ) (trees : Trees A) → join_last level leafless trees ≡ trees
join_none zero trees = joined-leafless trees
join_none (suc level) leafless = refl
join_none (suc level) (tree upper below leafless) = ap (λ (b : Trees _). tree upper b leafless) (join_none level below)
join_none (suc level) (tree upper below (tree x b a)) = ap (tree upper below) (join_none (suc level) (tree x b a))

pub join_more : {A : Type 0} (level : ℕ) (s t trees : Trees A) → join_last level t (join_last level s trees) ≡ join_last level (joined s t) trees
join_more zero s t trees = joined_assoc trees s t
join_more (suc level) s t leafless = refl
join_more (suc level) s t (tree upper below leafless) = ap (λ (b : Trees _). tree upper b leafless) (join_more level s t below)
join_more (suc level) s t (tree upper below (tree x b a)) = ap (tree upper below) (join_more (suc level) s t (tree x b a))

-- a node at the end of a level, then what stands below it
pub join_below : {A : Type 0} (level : ℕ) (x : A) (new trees : Trees A) → join_last (suc level) new (join_last level (alone x) trees) ≡ join_last level (tree x new leafless) trees
join_below zero x new leafless = refl
join_below zero x new (tree upper below leafless) = refl
join_below zero x new (tree upper below (tree y b a)) = ap (tree upper below) (join_below zero x new (tree y b a))
join_below (suc level) x new leafless = refl
join_below (suc level) x new (tree upper below leafless) = ap (λ (b : Trees _). tree upper b leafless) (join_below level x new below)
join_below (suc level) x new (tree upper below (tree y b a)) = ap (tree upper below) (join_below (suc level) x new (tree y b a))
