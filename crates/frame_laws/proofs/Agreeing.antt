-- What trees agree on at a node is all that its contexts and answers depend on.
use Rattle.std.proofs.Common.{◌≡◌, refl, ap, sym, ◌∙◌, ℕ, List, [], ◌∷◌, Option, Some}
use Rattle.plain_tree.specs.Trees.{Trees}
use Rattle.tree_rules.specs.Answers.{Pair}
use Rattle.tree_rules.specs.Chains.{Link}
use Rattle.tree_rules.specs.Labels.{Label}
use Rattle.tree_rules.specs.Places.{Seen, seen_named}
use Rattle.tree_rules.specs.declared.query.Query.{Query}
use Rattle.frame_laws.specs.Agreement.{AgreeAt, AreSameLinks, IsSameLink, answer_at, answer_by, context_at, context_of}

same_link : (l m : Link) → IsSameLink l m → m ≡ l
same_link l m s = λ i. record { name = s.name i; grid = s.grid i; children = s.children i; way = s.way i }

same_links : (chain later : List Link) → AreSameLinks chain later → later ≡ chain
same_links [] [] s = refl
same_links [] (m ∷ later) s = absurd s
same_links (l ∷ chain) [] s = absurd s
same_links (l ∷ chain) (m ∷ later) s = λ i. same_link l m s.0 i ∷ same_links chain later s.1 i

same_seen : (name : List ℕ) (t u : Trees Label) → AgreeAt name t u → seen_named name u ≡ seen_named name t
same_seen name t u a =
    a.in_second
    ∙ (λ i. Some (record { label = a.label i; chain = same_links a.before.chain a.after.chain a.chain i; below = a.below i }))
    ∙ sym a.in_first

pub contexts_alike : (name : List ℕ) (t u : Trees Label) (counts : List Pair) → AgreeAt name t u → context_at name u counts ≡ context_at name t counts
contexts_alike name t u counts a = ap (λ (o : Option Seen). context_of o counts) (same_seen name t u a)

pub answers_alike : (name : List ℕ) (t u : Trees Label) (q : Query) → AgreeAt name t u → answer_at name u q ≡ answer_at name t q
answers_alike name t u q a = ap (λ (o : Option Seen). answer_by o q) (same_seen name t u a)

pub ruleset alike = (contexts_alike, answers_alike)

-- ---- and where what is seen is the same they agree

links_refl : (chain : List Link) → AreSameLinks chain chain
links_refl [] = tt
links_refl (l ∷ chain) = (record { name = refl; grid = refl; children = refl; way = refl }, links_refl chain)

pub agree_by : (name : List ℕ) (t u : Trees Label) (s : Seen) → seen_named name t ≡ Some s → seen_named name u ≡ Some s → AgreeAt name t u
agree_by name t u s e f = record { before = s; after = s; in_first = e; in_second = f; label = refl; below = refl; chain = links_refl s.chain }
