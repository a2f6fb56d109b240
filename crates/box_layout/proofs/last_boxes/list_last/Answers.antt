use Rattle.std.proofs.Common.{rules, sym, ap, ◌∙◌, ◌≡◌, ◌++◌, ◌∷◌, [], ℕ, Bool, Some, if◌then◌else◌, length}
use Rattle.std.specs.Prelude.{slice_set}
use Rattle.box_layout.proofs.FoundBoxes.{listed_at_end}
use Rattle.box_layout.proofs.last_boxes.list_last.Goals as goal

pub returns-then-is_ok : goal.returns-then-is_ok
returns-then-is_ok c =
    let last : c.in-Ok.next ≡ length c.args.containers.now.items = search rules in
    let longer : c.push.new.self.items ≡ c.args.containers.now.items ++ Some c.args.below ∷ [] = c.push.ensures.items ∙ ap (λ (t : Bool). if t then c.args.containers.now.items ++ Some c.args.below ∷ [] else c.args.containers.now.items) (sym c.is_ok.ensures.value ∙ c.if-is_ok.true) in
    listed_at_end c.args.below c.args.slots.now.items (slice_set c.args.slots.now.items c.slot-slot.result c.in-Ok.next) c.args.containers.now.items c.push.new.self.items c.in-Ok.next last c.requires.slot c.requires.free
    (ap (λ (z : ℕ). slice_set c.args.slots.now.items z c.in-Ok.next) c.slot-slot.ensures) longer
