-- One local change after another, as a move and then other computed styles.
use Rattle.std.proofs.Common.{◌≡◌, Bool, true, false, ◌&&◌, refl, ◌∙◌}
use Rattle.node_arena.specs.declared.number.NodeId.{NodeId}
use Rattle.placing.specs.Nodes.{BareTrees, IsLive}
use Rattle.reach_frame.specs.Local.{IsLocal, ShowsSame}

module _ (touched : NodeId → Bool) (grid : Bool) (b w u : BareTrees) (first : IsLocal touched grid b w) (then_ : IsLocal touched grid w u) (keeps : (n : NodeId) → IsLive w n → IsLive u n) where
  marked_not : (g c : Bool) → c ≡ false → (g && c) ≡ false
  marked_not true c e = e
  marked_not false c e = refl

  both_show : (n : NodeId) → IsLive u n → (grid && touched n) ≡ false → ShowsSame b u n
  both_show n live m =
      let second = then_.shows n live m in
      let one = first.shows n second.live m in
      record { live = one.live; own = second.own ∙ one.own; children = second.children ∙ one.children; siblings = second.siblings ∙ one.siblings }

  pub composed : IsLocal touched grid b u
  composed =
      record {
        own = λ n live calm. then_.own n live calm ∙ first.own n (then_.shows n live (marked_not grid (touched n) calm)).live calm;
        shows = both_show;
        stays = λ q n i e live m. keeps q (first.stays q n i e (then_.shows n live m).live m);
      }
