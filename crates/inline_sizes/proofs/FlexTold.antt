-- The children of a flex container with what they told for its inline sizes, and a walk of them.
use Rattle.std.proofs.Common.{◌≡◌, ℕ, zero, suc, ◌+◌, ◌<◌, ◌≤◌, List, [], ◌∷◌, ◌++◌, false, Contains, arith, length, map, take, refl, sym, ap, ◌∙◌, subst}
use Rattle.std.specs.Prelude.{get_or}
use Rattle.std.proofs.lemmas.List.{take_all, take_more}
use Rattle.node_arena.specs.declared.number.NodeId.{NodeId}
use Rattle.node_arena.specs.Numbers.{below_at}
use Rattle.placing.specs.Children.{IsNext, IsTree}
use Rattle.placing.specs.Members.{AreInOrder, Every, IsPlace, Place, Tells, number_of, place_of}
use Rattle.placing.specs.Nodes.{BareTrees, children_at, kid_at, kids_at, sight_at, uses_at}
use Rattle.placing.specs.Order.{item_of, items_of}
use Rattle.placing.specs.Told.{ArePastMembers, AreToldMembers, last_turn}
use Rattle.placing.specs.declared.lined.Member.{Member}
use Rattle.placing.specs.declared.lined.ToldMember.{ToldMember}
use Rattle.placing.proofs.Each.{Each, all_each}
use Rattle.placing.proofs.LastMembers.{every_push, map_push}
use Rattle.placing.proofs.Numbers.{head_is, items_in_order}
use Rattle.tree_rules.specs.Answers.{Kid}
use Rattle.tree_rules.specs.AskedQueries.{inline_query}
use Rattle.tree_rules.specs.FlexSizes as rules
use Rattle.tree_rules.specs.declared.kind.NodeKind.TheVariants as kind
use Rattle.tree_rules.specs.declared.query.Query.{Query}
use Rattle.inline_sizes.proofs.FlexWalks.{flex_uses_next}
use Rattle.inline_sizes.proofs.Held.{tops_get}
use Rattle.inline_sizes.specs.Flexes.{AreMembers, IsChild, flex_seen, member_of}

-- the child tells this
abbrev pub tells_in : BareTrees → ToldMember → Type 0
tells_in b e = Tells (kid_at b e.member.child) e

-- ---- one by one
every_at : {A : Type 0} (P : A → Type 0) (es : List A) → Every P es → (k : ℕ) (e : A) → k < length es → e ≡ get_or es k e → P e
every_at P [] h k e l is = absurd (omega (arith, l))
every_at P (x ∷ es) h zero e l is = subst P (sym is) h.0
every_at P (x ∷ es) h (suc k) e l is = every_at P es h.1 k e (omega (arith, l)) is

place_at : {A B : Type 0} (f : A → B) (P : B → Type 0) (es : List A) → Every P (map f es) → (k : ℕ) (e : A) → k < length es → e ≡ get_or es k e → P (f e)
place_at f P [] h k e l is = absurd (omega (arith, l))
place_at f P (x ∷ es) h zero e l is = subst (λ z. P (f z)) (sym is) h.0
place_at f P (x ∷ es) h (suc k) e l is = place_at f P es h.1 k e (omega (arith, l)) is

number_at : (es : List ToldMember) (k : ℕ) (e : ToldMember) → k < length es → e ≡ get_or es k e → get_or (map number_of (map place_of es)) k 0 ≡ e.member.number
number_at [] k e l is = absurd (omega (arith, l))
number_at (x ∷ es) zero e l is = ap (λ (z : ToldMember). z.member.number) (sym is)
number_at (x ∷ es) (suc k) e l is = number_at es k e (omega (arith, l)) is

numbers_counted : (es : List ToldMember) → length (map number_of (map place_of es)) ≡ length es
numbers_counted [] = refl
numbers_counted (e ∷ es) = ap suc (numbers_counted es)

-- ---- a child of these on a walk
module _ (b : BareTrees) (n : NodeId) (tree : IsTree b) where
  pub is_next : (p : Place) → IsPlace (children_at b n) p → IsNext b n p.0 p.1
  is_next p h = tree.next n p.1 p.0 (tops_get (below_at b n) p.0 ∙ h)

  module _ (past : List ToldMember) (are : ArePastMembers b n past) (k : ℕ) (e : ToldMember) (l : k < length past) (is : e ≡ get_or past k e) where
    pub next_at : IsNext b n e.member.number e.member.child
    next_at = is_next (place_of e) (place_at place_of (IsPlace (children_at b n)) past are.order.children k e l is)

    pub last_at : e.turn < last_turn → tells_in b e
    last_at = every_at (λ (x : ToldMember). x.turn < last_turn → tells_in b x) past are.told k e l is

    -- every question leads to the one to it
    pub asks_at : (q : Query) → (sight_at b n).label.kind ≡ kind.Flex → Contains (uses_at b n q) (e.member.number, inline_query false [])
    asks_at q flex =
        let number : get_or (map number_of (map place_of past)) k 0 ≡ e.member.number = number_at past k e l is in
        let there : k < length (map number_of (map place_of past)) = omega (arith, l, numbers_counted past) in
        subst (λ m. Contains (uses_at b n q) (m, inline_query false [])) number
        (flex_uses_next b n (map number_of (map place_of past)) are.order.numbers k there e.member.child (subst (λ m. IsNext b n m e.member.child) (sym number) next_at) q flex)

-- ---- one more
-- it tells this in the tree as it was
pub tells_there : (b d : BareTrees) (e x : ToldMember) → d ≡ b → place_of x ≡ place_of e → Tells (kid_at d e.member.child) x → tells_in b x
tells_there b d e x same place h = subst (λ (p : Place). Tells (kid_at b p.1) x) (sym place) (subst (λ z. Tells (kid_at z e.member.child) x) same h)

-- it stands where the one stood that was to be asked
pub places_next : (past told new : List ToldMember) (k : ℕ) (e x : ToldMember) → k < length past → e ≡ get_or past k e → new ≡ told ++ x ∷ [] → place_of x ≡ place_of e
    → map place_of told ≡ map place_of (take k past) → map place_of new ≡ map place_of (take (k + 1) past)
places_next past told new k e x l is grown place so_far =
    ap (map place_of) grown
    ∙ map_push place_of told x
    ∙ (λ i. so_far i ++ (place ∙ ap place_of is) i ∷ [])
    ∙ sym (map_push place_of (take k past) (get_or past k e))
    ∙ ap (map place_of) (sym (take_more past k e l))

pub told_more : (P : ToldMember → Type 0) (told new : List ToldMember) (x : ToldMember) → new ≡ told ++ x ∷ [] → Every P told → P x → Every P new
told_more P told new x grown h p = subst (Every P) (sym grown) (every_push P told x h p)

-- all of them
pub all_told : (b : BareTrees) (n : NodeId) (past told : List ToldMember) (k : ℕ) → length past ≤ k → ArePastMembers b n past → map place_of told ≡ map place_of (take k past) → Every (tells_in b) told → AreToldMembers b n told
all_told b n past told k l are places tells = record { order = subst (AreInOrder (sight_at b n) (children_at b n)) (sym (places ∙ ap (map place_of) (take_all k past l))) are.order; told = tells }

-- ---- by the definitions
module _ (b : BareTrees) (n : NodeId) (tree : IsTree b) where
  one_told : (e : ToldMember) → IsPlace (children_at b n) (place_of e) → tells_in b e → member_of b e.member ≡ rules.member_of (item_of (kid_at b n) (kids_at b n) e.member.number)
  one_told e h w =
      let next = is_next b n tree (place_of e) h in
      let kid : get_or (kids_at b n) e.member.number (kid_at b n) ≡ kid_at b e.member.child = head_is (kid_at b n) (kids_at b n) _ e.member.number (kid_at b e.member.child) next.kids in
      (λ i. record { number = e.member.number; kid = sym kid i; inline = (w.inline ∙ ap (λ (z : Kid). z.answers.inline []) (sym kid)) i })

  each_told : (es : List ToldMember) → Every (IsPlace (children_at b n)) (map place_of es) → Every (tells_in b) es → map (λ (e : ToldMember). member_of b e.member) es ≡ map rules.member_of (items_of (kid_at b n) (kids_at b n) (map number_of (map place_of es)))
  each_told [] h w = refl
  each_told (e ∷ es) h w = λ i. one_told e h.0 w.0 i ∷ each_told es h.1 w.1 i

  told_members : (es : List ToldMember) → AreToldMembers b n es → map (λ (e : ToldMember). member_of b e.member) es ≡ (flex_seen b n).members
  unfolding flex_seen
  told_members es h =
      each_told es h.order.children h.told
      ∙ ap (λ l. map rules.member_of (items_of (kid_at b n) (kids_at b n) l)) h.order.numbers
      ∙ ap (map rules.member_of) (sym (items_in_order (λ (k : Kid). k.label.grid.order) (kid_at b n) (kids_at b n)))

  members_in : (es : List ToldMember) → map (member_of b) (map (λ (e : ToldMember). e.member) es) ≡ map (λ (e : ToldMember). member_of b e.member) es
  members_in [] = refl
  members_in (e ∷ es) = ap (λ l. member_of b e.member ∷ l) (members_in es)

  children_in : (es : List ToldMember) → Every (IsPlace (children_at b n)) (map place_of es) → Each (IsChild b n) (map (λ (e : ToldMember). e.member) es)
  children_in [] h = tt
  children_in (e ∷ es) h = let next = is_next b n tree (place_of e) h.0 in (record { number = next.number; live = next.live }, children_in es h.1)

  pub are_members : (es : List ToldMember) (members : List Member) → AreToldMembers b n es → members ≡ map (λ (e : ToldMember). e.member) es → AreMembers b n members
  are_members es members h e =
      subst (AreMembers b n) (sym e)
      (record { same = members_in es ∙ told_members es h; children = all_each (IsChild b n) (map (λ (e : ToldMember). e.member) es) (children_in es h.order.children) })

  -- what they contribute
  lows_in : (es : List ToldMember) → Every (tells_in b) es → map (λ (e : ToldMember). e.low) es ≡ map (λ (m : rules.Member). rules.inline_contribution m m.inline.0) (map (λ (e : ToldMember). member_of b e.member) es)
  lows_in [] w = refl
  lows_in (e ∷ es) w = λ i. w.0.low i ∷ lows_in es w.1 i

  highs_in : (es : List ToldMember) → Every (tells_in b) es → map (λ (e : ToldMember). e.high) es ≡ map (λ (m : rules.Member). rules.inline_contribution m m.inline.1) (map (λ (e : ToldMember). member_of b e.member) es)
  highs_in [] w = refl
  highs_in (e ∷ es) w = λ i. w.0.high i ∷ highs_in es w.1 i

  pub told_lows : (es : List ToldMember) → AreToldMembers b n es → map (λ (e : ToldMember). e.low) es ≡ map (λ (m : rules.Member). rules.inline_contribution m m.inline.0) (flex_seen b n).members
  told_lows es h = lows_in es h.told ∙ ap (map (λ (m : rules.Member). rules.inline_contribution m m.inline.0)) (told_members es h)

  pub told_highs : (es : List ToldMember) → AreToldMembers b n es → map (λ (e : ToldMember). e.high) es ≡ map (λ (m : rules.Member). rules.inline_contribution m m.inline.1) (flex_seen b n).members
  told_highs es h = highs_in es h.told ∙ ap (map (λ (m : rules.Member). rules.inline_contribution m m.inline.1)) (told_members es h)
