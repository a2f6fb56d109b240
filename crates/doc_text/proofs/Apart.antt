-- No name stands twice after trees are put under a parent.
use Rattle.std.proofs.Common.{◌≡◌, ℕ, zero, suc, ◌+◌, ◌≤◌, Bool, true, false, cond, refl, ◌∙◌, arith}
use Rattle.std.specs.Str.{bytes_eq}
use Rattle.std.proofs.lemmas.Bool.{or_from, or_left, or_right}
use Rattle.plain_tree.specs.Trees.{Trees, leafless, tree, joined, size_of, height_of, count_of}
use Rattle.doc_text.specs.Label.{Label}
use Rattle.doc_text.specs.Texts.{Word}
use Rattle.doc_text.specs.Growth.{holds}
use Rattle.doc_text.specs.Documents.{node_limit}
use Rattle.doc_text.specs.Named.{IsDistinct, put_at, graft, grafted, tree_at, below_of, level_of}
use Rattle.doc_text.specs.Edits.{are_too_many, child_count, is_leaf_top}
use Rattle.doc_text.specs.Valid.{HasContainers, HasFewChildren, IsShaped}
use Rattle.doc_text.proofs.Opening.{holds-joined}
use Rattle.doc_text.proofs.Grown.{or_split, or_join, own_name, not_true, not_both}
use Rattle.doc_text.proofs.Standing.{unchanged}
use Rattle.doc_text.proofs.Shapes.{OfTop, each_named}
use Rattle.doc_text.proofs.Grafts.{AreApart, turned, HasPlace, graft_few, graft_containers, graft_size, graft_height}

put_less : (i : ℕ) (new t : Trees Label) (m : Word) → holds new m ≡ false → holds t m ≡ false → holds (put_at i new t) m ≡ false
put_less i new leafless m a h = a
put_less zero new (tree x below after) m a h = holds-joined new (tree x below after) m ∙ or_from _ _ a h
put_less (suc i) new (tree x below after) m a h =
    let p = or_split (bytes_eq x.name m) (holds below m) (holds after m) h in
    or_join _ _ _ p.0 p.1.0 (put_less i new after m a p.1.1)

graft_less : (parent : Word) (i : ℕ) (new t : Trees Label) (m : Word) → holds new m ≡ false → holds t m ≡ false → holds (grafted parent i new t) m ≡ false
graft_less parent i new leafless m a h = refl
graft_less parent i new (tree x below after) m a h =
    let q = or_split (bytes_eq x.name m) (holds below m) (holds after m) h in
    by_name (bytes_eq x.name parent) q.0 q.1.0 q.1.1 (graft_less parent i new below m a q.1.0) (graft_less parent i new after m a q.1.1)
  where
    by_name : (e : Bool) → bytes_eq x.name m ≡ false → holds below m ≡ false → holds after m ≡ false → holds (grafted parent i new below) m ≡ false → holds (grafted parent i new after) m ≡ false
        → holds (cond e (tree x (put_at i new below) after) (tree x (grafted parent i new below) (grafted parent i new after))) m ≡ false
    by_name true o hb ha b f = or_join _ _ _ o (put_less i new below m a hb) ha
    by_name false o hb ha b f = or_join _ _ _ o b f

distinct_joined : (s t : Trees Label) → IsDistinct s → IsDistinct t → AreApart s t → IsDistinct (joined s t)
distinct_joined leafless t d e a = e
distinct_joined (tree x below after) t d e a = (
  d.0,
  (
    holds-joined after t x.name ∙ or_from _ _ d.1.0 (a x.name (or_left _ _ (own_name x.name))),
    (
      (λ m h. holds-joined after t m ∙ or_from _ _ (d.1.1.0 m h) (a m (or_right (bytes_eq x.name m) _ (or_left _ _ h)))),
      (d.1.1.1.0, distinct_joined after t d.1.1.1.1 e (λ m h. a m (or_right (bytes_eq x.name m) _ (or_right (holds below m) _ h)))),
    ),
  ),
)

distinct_put : (i : ℕ) (new t : Trees Label) → IsDistinct new → IsDistinct t → AreApart t new → IsDistinct (put_at i new t)
distinct_put i new leafless d e a = d
distinct_put zero new (tree x below after) d e a = distinct_joined new (tree x below after) d e (turned (tree x below after) new a)
distinct_put (suc i) new (tree x below after) d e a = (
  e.0,
  (
    put_less i new after x.name (a x.name (or_left _ _ (own_name x.name))) e.1.0,
    (
      (λ m h. put_less i new after m (a m (or_right (bytes_eq x.name m) _ (or_left _ _ h))) (e.1.1.0 m h)),
      (e.1.1.1.0, distinct_put i new after d e.1.1.1.1 (λ m h. a m (or_right (bytes_eq x.name m) _ (or_right (holds below m) _ h)))),
    ),
  ),
)

held_put : (i : ℕ) (new t u : Trees Label) → AreApart new u → AreApart t u → AreApart (put_at i new t) u
held_put i new t u a b m h = not_true _ (λ e. not_both _ h (put_less i new t m (turned new u a m e) (turned t u b m e)))

held_graft : (parent : Word) (i : ℕ) (new t u : Trees Label) → AreApart new u → AreApart t u → AreApart (grafted parent i new t) u
held_graft parent i new t u a b m h = not_true _ (λ e. not_both _ h (graft_less parent i new t m (turned new u a m e) (turned t u b m e)))

pub distinct_graft : (parent : Word) (i : ℕ) (new t : Trees Label) → IsDistinct new → IsDistinct t → AreApart t new → IsDistinct (grafted parent i new t)
distinct_graft parent i new leafless d e a = tt
distinct_graft parent i new (tree x below after) d e a = by_name (bytes_eq x.name parent) refl (distinct_graft parent i new below d e.1.1.1.0 in_below) (distinct_graft parent i new after d e.1.1.1.1 in_after)
  where
    own : holds new x.name ≡ false
    own = a x.name (or_left _ _ (own_name x.name))

    in_below : AreApart below new
    in_below m h = a m (or_right (bytes_eq x.name m) _ (or_left _ _ h))

    in_after : AreApart after new
    in_after m h = a m (or_right (bytes_eq x.name m) _ (or_right (holds below m) _ h))

    -- the new trees stand below or after, and not in both
    once : IsDistinct (grafted parent i new below) → IsDistinct (grafted parent i new after) → (b : Bool) → holds below parent ≡ b → AreApart (grafted parent i new below) (grafted parent i new after)
    once db da true h = rw (unchanged parent (graft i new) after (e.1.1.0 parent h)) (held_graft parent i new below after (turned after new in_after) e.1.1.0)
    once db da false h = rw (unchanged parent (graft i new) below h) (turned (grafted parent i new after) below (held_graft parent i new after below (turned below new in_below) (turned below after e.1.1.0)))

    by_name : (c : Bool) → bytes_eq x.name parent ≡ c → IsDistinct (grafted parent i new below) → IsDistinct (grafted parent i new after)
        → IsDistinct (cond c (tree x (put_at i new below) after) (tree x (grafted parent i new below) (grafted parent i new after)))
    by_name true c db da =
        (put_less i new below x.name own e.0, (e.1.0, (held_put i new below after (turned after new in_after) e.1.1.0, (distinct_put i new below d e.1.1.1.0 in_below, e.1.1.1.1))))
    by_name false c db da =
        (graft_less parent i new below x.name own e.0, (graft_less parent i new after x.name own e.1.0, (once db da (holds below parent) refl, (db, da))))

-- ---- the shape of all

-- trees that may be put under a parent
pub record MayStand (version : ℕ) (parent : Word) (new t : Trees Label) : Type 0 where
  pub distinct : IsDistinct new
  pub containers : HasContainers new
  pub children : HasFewChildren version new
  pub apart : AreApart t new
  pub levels : level_of parent t + height_of new ≤ 64
  pub nodes : size_of t + size_of new ≤ node_limit version
  pub few : are_too_many version (child_count parent t + count_of new) ≡ false
  pub free : is_leaf_top (tree_at parent t) ≡ false

place_of : (version : ℕ) (parent : Word) (i : ℕ) (new u : Trees Label) → are_too_many version (count_of (below_of u) + count_of new) ≡ false → is_leaf_top u ≡ false → OfTop (HasPlace parent i new version) u
place_of version parent i new leafless h k = tt
place_of version parent i new (tree x below after) h k = (h, k)

pub graft_shaped : (version : ℕ) (parent : Word) (i : ℕ) (new t : Trees Label) → IsShaped version t → MayStand version parent new t → IsShaped version (grafted parent i new t)
graft_shaped version parent i new t s m =
    let place = each_named parent (HasPlace parent i new version) t s.distinct (place_of version parent i new (tree_at parent t) m.few m.free) in
    record {
      distinct = distinct_graft parent i new t m.distinct s.distinct m.apart;
      containers = graft_containers parent i new version t m.containers s.containers place;
      levels = omega (arith, graft_height parent i new t s.distinct, s.levels, m.levels);
      nodes = omega (arith, graft_size parent i new t s.distinct, m.nodes);
      children = graft_few parent i new version t m.children s.children place;
    }
