-- Where the names of trees differ, and their numbers, each name tells the number of its node.
use Rattle.std.proofs.Common.{◌≡◌, refl, ap, sym, ◌∙◌, ℕ, ◌+◌, Bool, true, false, ◌&&◌, List, Option, Some, None, if◌then◌else◌, arith}
use Rattle.std.specs.Str.{bytes_eq}
use Rattle.plain_tree.specs.Trees.{leafless, tree}
use Rattle.node_arena.specs.declared.number.NodeId.{NodeId}
use Rattle.node_arena.specs.Numbers.{IsDistinct, one, same}
use Rattle.doc_text.specs.Growth.{holds}
use Rattle.doc_text.specs.Named.{IsDistinct as NamesDiffer}
use Rattle.doc_text.proofs.Grown.{or_split, same_name}
use Rattle.placing.specs.Nodes.{NodeTrees}
use Rattle.page_tree.specs.Documents.{plain_trees}
use Rattle.page_tree.specs.Registers.{IsRegister, named, told}

abbrev first_of : Option NodeId → Option NodeId → Option NodeId
first_of None other = other
first_of (Some n) other = Some n

-- the number of the first node of a name
abbrev pub find_in : NodeTrees → List ℕ → Option NodeId
find_in leafless name = None
find_in (tree x below after) name = if bytes_eq x.1.name name then Some x.0 else first_of (find_in below name) (find_in after name)

none_named : (t : NodeTrees) (name : List ℕ) (n : NodeId) → holds (plain_trees t) name ≡ false → named name n t ≡ 0
none_named leafless name n e = refl
none_named (tree x below after) name n e =
    let no = or_split (bytes_eq x.1.name name) (holds (plain_trees below) name) (holds (plain_trees after) name) e in
    omega (arith, other (same x.0 n) (bytes_eq x.1.name name) no.0, none_named below name n no.1.0, none_named after name n no.1.1)
  where
    other : (a b : Bool) → b ≡ false → one (a && b) ≡ 0
    other true b f = ap one f
    other false b f = refl

none_found : (t : NodeTrees) (name : List ℕ) → holds (plain_trees t) name ≡ false → find_in t name ≡ None
none_found leafless name e = refl
none_found (tree x below after) name e =
    let no = or_split (bytes_eq x.1.name name) (holds (plain_trees below) name) (holds (plain_trees after) name) e in
    λ i. if no.0 i then Some x.0 else first_of (none_found below name no.1.0 i) (none_found after name no.1.1 i)

told_first : (n : NodeId) (o p : Option NodeId) → p ≡ None → told (first_of o p) n ≡ told o n
told_first n None p e = ap (λ (q : Option NodeId). told q n) e
told_first n (Some m) p e = refl

told_second : (n : NodeId) (o p : Option NodeId) → o ≡ None → told (first_of o p) n ≡ told p n
told_second n o p e = ap (λ (q : Option NodeId). told (first_of q p) n) e

told_by : (t : NodeTrees) → NamesDiffer (plain_trees t) → (name : List ℕ) (n : NodeId) → named name n t ≡ told (find_in t name) n
told_by leafless d name n = refl
told_by (tree x below after) d name n = at (bytes_eq x.1.name name) refl (told_by below d.1.1.1.0 name n) (told_by after d.1.1.1.1 name n)
  where
    yes : (a : Bool) → one (a && true) ≡ one a
    yes true = refl
    yes false = refl

    no : (a : Bool) → one (a && false) ≡ 0
    no true = refl
    no false = refl

    lower : named name n below ≡ told (find_in below name) n → named name n after ≡ told (find_in after name) n → (h : Bool) → holds (plain_trees below) name ≡ h
        → named name n below + named name n after ≡ told (first_of (find_in below name) (find_in after name)) n
    lower b a true h =
        let apart : holds (plain_trees after) name ≡ false = d.1.1.0 name h in
        omega (arith, b, none_named after name n apart, told_first n (find_in below name) (find_in after name) (none_found after name apart))
    lower b a false h = omega (arith, a, none_named below name n h, told_second n (find_in below name) (find_in after name) (none_found below name h))

    at : (c : Bool) → bytes_eq x.1.name name ≡ c → named name n below ≡ told (find_in below name) n → named name n after ≡ told (find_in after name) n
        → one (same x.0 n && c) + named name n below + named name n after ≡ told (if c then Some x.0 else first_of (find_in below name) (find_in after name)) n
    at true e b a =
        let own : x.1.name ≡ name = same_name x.1.name name e in
        omega (arith, yes (same x.0 n), none_named below name n (ap (holds (plain_trees below)) (sym own) ∙ d.0), none_named after name n (ap (holds (plain_trees after)) (sym own) ∙ d.1.0))
    at false e b a = omega (arith, no (same x.0 n), lower b a (holds (plain_trees below) name) refl)

pub register_of : (t : NodeTrees) → NamesDiffer (plain_trees t) → IsDistinct t → IsRegister (find_in t) t
register_of t d few = record { told = told_by t d; distinct = few }
