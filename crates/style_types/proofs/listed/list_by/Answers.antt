use Rattle.std.proofs.Common.{rules, ◌≡◌, List, length, ap, refl, sym, ◌∙◌}
use Rattle.runs.specs.Times.{items_of}
use Rattle.style_types.specs.Computed.{computed_repeat, computed_tracks, list_with}
use Rattle.style_types.specs.Parts.{tracks_lengths, IsPartBy}
use Rattle.style_types.specs.declared.track.TrackFn.{TrackFn}
use Rattle.style_types.specs.declared.unit.Unit.{Unit}
use Rattle.style_types.proofs.Parts.{list_exact}
use Rattle.style_types.proofs.listed.list_by.Goals as goal

pub returns-in_ok-repeat-in-Some : goal.returns-in_ok-repeat-in-Some
returns-in_ok-repeat-in-Some c =
    let em = c.args.em in
    let rem = c.args.rem in
    let list = c.args.list.now in
    let sizes = c.in-Some.sizes in
    let repeat = c.in_ok-repeat-in-Some.field-0 in
    let found : IsPartBy em rem (1, items_of c.parts.result.now) (1, items_of c.parts-2.result.now) sizes = search rules in
    let p : IsPartBy em rem (1, list.sizes) (1, c.args.parts.now) sizes = record {
      same = refl;
      fits = sym (ap length c.parts-2.ensures) ∙ found.fits ∙ ap tracks_lengths c.parts.ensures;
      made = found.made
          ∙ ap (λ (ts : List TrackFn). (computed_tracks em rem ts (items_of c.parts-2.result.now)).0) c.parts.ensures
          ∙ ap (λ (us : List Unit). (computed_tracks em rem list.sizes us).0) c.parts-2.ensures;
    } in
    let r : (repeat, c.repeat.new.self) ≡ computed_repeat em rem list.repeat c.args.others.now = search rules in
    let names : c.in_ok-copy-in-Some.field-0 ≡ list.names = search rules in
    ap (λ (names : _). list_with (record list { names = names }) sizes repeat) names
    ∙ list_exact em rem list c.args.parts.now c.args.others.now c.repeat.new.self sizes repeat p r
