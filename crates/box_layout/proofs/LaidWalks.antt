-- Walks on the way of the boxes, step by step.
use Rattle.std.proofs.Common.{◌≡◌, ℕ, ℤ, List, [], ◌∷◌, true, refl, sym, ap, ◌∙◌, arith, subst, inl, inr}
use Rattle.std.specs.Prelude.{◌⊎◌, Contains}
use Rattle.std.proofs.lemmas.List.Elements.{Contains-append_left, Contains-append_right}
use Rattle.node_arena.specs.declared.number.NodeId.{NodeId}
use Rattle.node_arena.specs.Numbers.{top_numbers}
use Rattle.outside.specs.declared.event.Event.{Event}
use Rattle.placing.specs.Children.{IsNext, IsOutside}
use Rattle.placing.specs.Kept.{IsRight}
use Rattle.placing.specs.Nodes.{BareTrees, sight_at, uses_at}
use Rattle.placing.specs.Walks.{Asks, IsCut, State, Stopped, Walk, Walked, bare_in, events_at, itself as asks_itself, through as asks_through}
use Rattle.placing.proofs.Walks.{walk_also, walk_none, walk_then}
use Rattle.tree_rules.specs.Queries.{is_container}
use Rattle.tree_rules.specs.declared.query.Query.{Query}
use Rattle.box_layout.specs.Paths.{IsAsked, IsChildLaid, IsChildPart, IsCutOff, IsCutShort, IsLaidOut, IsLaidPart, Leads, first_asked, itself, leads_at, passes_at, through}

-- ---- what is asked

-- what a question uses it leads to
pub asks_lead : (b : BareTrees) (n m : NodeId) (q s : Query) → Asks b n q m s → Leads b n q m s
asks_lead b _ _ _ _ (asks_itself n q) = itself n q
asks_lead b _ _ _ _ (asks_through n c m q r s index is uses rest) =
    through n c m q r s index is (Contains-append_left (uses_at b n q) (passes_at b n q) (index, r) uses) (asks_lead b c m r s rest)

-- what a question passes on it leads to
pub passed_leads : (b : BareTrees) (n : NodeId) (q r : Query) (index : ℕ) → Contains (passes_at b n q) (index, r) → Contains (leads_at b n q) (index, r)
passed_leads b n q r index h = Contains-append_right (uses_at b n q) (passes_at b n q) (index, r) h

-- ---- one node

cut_off : (b : BareTrees) (May Also : NodeId → Query → Type 0) (now : State) (rest : List Event) → ((m : NodeId) (r : Query) → May m r → Also m r) → (rest ≡ []) ⊎ IsCutOff b May now rest → (rest ≡ []) ⊎ IsCutOff b Also now rest
cut_off b May Also now rest f (inl e) = inl e
cut_off b May Also now rest f (inr k) = inr (record { node = k.node; query = k.query; left = k.left; begun = k.begun; asked = f k.node k.query k.asked; absent = k.absent })

of_cut : (b : BareTrees) (n : NodeId) (q : Query) (now : State) (rest : List Event) → (rest ≡ []) ⊎ IsCut b n q now rest → (rest ≡ []) ⊎ IsCutOff b (Asks b n q) now rest
of_cut b n q now rest (inl e) = inl e
of_cut b n q now rest (inr k) = inr (record { node = k.node; query = k.query; left = k.left; begun = k.begun; asked = k.asked; absent = k.absent })

-- its own question is answered
pub laid_first : (n : NodeId) (q : Query) (s t : State) → Walked n q s t → IsLaidOut n q s t
laid_first n q s t w = record { walk = walk_also (Asks (bare_in s) n q) (Leads (bare_in s) n q) 0 [] s t (λ m r. asks_lead (bare_in s) n m q r) w.walk; within = w.within }

pub part_first : (n : NodeId) (q : Query) (s t : State) → Stopped n q s t → IsLaidPart n q s t
part_first n q s t w =
    record {
      more = w.more;
      rest = w.rest;
      walk = walk_also (Asks (bare_in s) n q) (Leads (bare_in s) n q) w.more w.rest s t (λ m r. asks_lead (bare_in s) n m q r) w.walk;
      within = w.within;
      cut = cut_off (bare_in s) (Asks (bare_in s) n q) (Leads (bare_in s) n q) t w.rest (λ m r. asks_lead (bare_in s) n m q r) (of_cut (bare_in s) n q t w.rest w.cut);
    }

-- memory was wanting after that
pub part_laid : (n : NodeId) (q : Query) (s t : State) → IsLaidOut n q s t → IsLaidPart n q s t
part_laid n q s t w = record { more = 0; rest = []; walk = w.walk; within = w.within; cut = inl refl }

-- ---- a child, after its parent

module _ (b : BareTrees) (n c : NodeId) (i : ℕ) (next : IsNext b n i c) (q r : Query) (s t : State) (passes : is_container (sight_at b c).label.kind ≡ true → Contains (passes_at b n q) (i, r)) (is : bare_in t ≡ b) (w : IsLaidOut n q s t) where
  from_start : b ≡ bare_in s
  from_start = sym is ∙ w.walk.bare_same

  next_now : IsNext (bare_in s) n i c
  next_now = subst (λ z. IsNext z n i c) from_start next

  leads_through : is_container (sight_at b c).label.kind ≡ true → (m : NodeId) (p : Query) → Leads (bare_in t) c r m p → Leads (bare_in s) n q m p
  leads_through k m p a =
      through n c m q r p i next_now.number (subst (λ z. Contains (leads_at z n q) (i, r)) from_start (passed_leads b n q r i (passes k))) (subst (λ z. Leads z c r m p) w.walk.bare_same a)

  apart_now : (m : NodeId) → IsOutside (bare_in s) n m → IsOutside (bare_in t) c m
  apart_now m out = subst (λ z. IsOutside z c m) (sym w.walk.bare_same) (next_now.apart m out)

  pub laid_then : (u : State) → IsChildLaid b c r t u → IsLaidOut n q s u
  laid_then u (inl e) = subst (IsLaidOut n q s) (sym e) w
  laid_then u (inr (k, x)) =
      record {
        walk = walk_then (Leads (bare_in s) n q) (Leads (bare_in t) c r) 0 0 0 [] s t u w.walk x.walk (leads_through k) (omega (arith, w.walk.ticks, x.walk.ticks));
        within = λ m out. x.within m (apart_now m out) ∙ w.within m out;
      }

  pub part_then : (u : State) → IsChildPart b c r t u → IsLaidPart n q s u
  part_then u (inl e) = subst (IsLaidPart n q s) (sym e) (part_laid n q s t w)
  part_then u (inr (k, x)) =
      record {
        more = x.more;
        rest = x.rest;
        walk = walk_then (Leads (bare_in s) n q) (Leads (bare_in t) c r) 0 x.more x.more x.rest s t u w.walk x.walk (leads_through k) (omega (arith, w.walk.ticks, x.walk.ticks));
        within = λ m out. x.within m (apart_now m out) ∙ w.within m out;
        cut = at x.cut;
      }
    where
      at : (x.rest ≡ []) ⊎ IsCutOff (bare_in t) (Leads (bare_in t) c r) u x.rest → (x.rest ≡ []) ⊎ IsCutOff (bare_in s) (Leads (bare_in s) n q) u x.rest
      at (inl e) = inl e
      at (inr j) = inr (record { node = j.node; query = j.query; left = j.left; begun = j.begun ∙ ap (λ z. events_at z j.node j.query) w.walk.bare_same; asked = leads_through k j.node j.query j.asked; absent = j.absent })

-- ---- the whole tree

module _ (width height : ℤ) (root : NodeId) (s : State) (top : top_numbers (bare_in s) ≡ root ∷ []) where
  May : NodeId → Query → Type 0
  May = IsAsked (bare_in s) width height

  asked_first : (t : State) → bare_in t ≡ bare_in s → (first : Query) → Contains (first_asked width height (sight_at (bare_in s) root).label (sight_at (bare_in s) root).below) (0, first) → (m : NodeId) (r : Query) → Leads (bare_in t) root first m r → May m r
  unfolding May
  asked_first t is first own m r leads = record { root = root; top = top; first = first; own = own; leads = subst (λ z. Leads z root first m r) is leads }

  -- memory was wanting after that
  pub cut_here : (t : State) → Walk (IsAsked (bare_in s) width height) 0 [] s t → IsCutShort (bare_in s) width height s t
  cut_here t w = record { more = 0; rest = []; walk = w; cut = inl refl }

  -- one question to the root more
  module _ (t : State) (w : Walk (IsAsked (bare_in s) width height) 0 [] s t) (first : Query) where
    pub walk_more : Contains (first_asked width height (sight_at (bare_in s) root).label (sight_at (bare_in s) root).below) (0, first) → (u : State) → IsLaidOut root first t u → Walk (IsAsked (bare_in s) width height) 0 [] s u
    unfolding May
    walk_more own u x = walk_then (IsAsked (bare_in s) width height) (Leads (bare_in t) root first) 0 0 0 [] s t u w x.walk (asked_first t w.bare_same first own) (omega (arith, w.ticks, x.walk.ticks))

    pub cut_more : Contains (first_asked width height (sight_at (bare_in s) root).label (sight_at (bare_in s) root).below) (0, first) → (u : State) → IsLaidPart root first t u → IsCutShort (bare_in s) width height s u
    unfolding May
    cut_more own u x =
        record {
          more = x.more;
          rest = x.rest;
          walk = walk_then (IsAsked (bare_in s) width height) (Leads (bare_in t) root first) 0 x.more x.more x.rest s t u w x.walk (asked_first t w.bare_same first own) (omega (arith, w.ticks, x.walk.ticks));
          cut = at (cut_off (bare_in t) (Leads (bare_in t) root first) (IsAsked (bare_in s) width height) u x.rest (asked_first t w.bare_same first own) x.cut);
        }
      where
        at : (x.rest ≡ []) ⊎ IsCutOff (bare_in t) (IsAsked (bare_in s) width height) u x.rest → (x.rest ≡ []) ⊎ IsCutOff (bare_in s) (IsAsked (bare_in s) width height) u x.rest
        at (inl e) = inl e
        at (inr j) = inr (record { node = j.node; query = j.query; left = j.left; begun = j.begun ∙ ap (λ z. events_at z j.node j.query) w.bare_same; asked = j.asked; absent = j.absent })

    -- the boxes of the root and of all below it
    pub walk_boxes : (is_container (sight_at (bare_in s) root).label.kind ≡ true → Contains (first_asked width height (sight_at (bare_in s) root).label (sight_at (bare_in s) root).below) (0, first)) → (u : State) → IsChildLaid (bare_in s) root first t u →
        Walk (IsAsked (bare_in s) width height) 0 [] s u
    walk_boxes own u (inl e) = subst (Walk (IsAsked (bare_in s) width height) 0 [] s) (sym e) w
    walk_boxes own u (inr (k, x)) = walk_more (own k) u x

    pub cut_boxes : (is_container (sight_at (bare_in s) root).label.kind ≡ true → Contains (first_asked width height (sight_at (bare_in s) root).label (sight_at (bare_in s) root).below) (0, first)) → (u : State) → IsChildPart (bare_in s) root first t u → IsCutShort (bare_in s) width height s u
    cut_boxes own u (inl e) = cut_here u (subst (Walk (IsAsked (bare_in s) width height) 0 [] s) (sym e) w)
    cut_boxes own u (inr (k, x)) = cut_more (own k) u x
