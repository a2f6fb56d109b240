-- The lines, the document and the page of a text.
use Rattle.std.proofs.Common.{◌≡◌, ◌≤◌, ◌∷◌, ◌++◌, [], List, length, sym, subst, arith}
use Rattle.std.specs.Prelude.{Contains, IsSome}
use Rattle.doc_text.specs.declared.document.Doc.{Doc}
use Rattle.doc_text.specs.Valid.{IsValid, AreShort}
use Rattle.node_arena.specs.declared.number.NodeId.{NodeId}
use Rattle.node_arena.specs.Numbers.{part_at}
use Rattle.page_tree.specs.Pages.{Held, document_of}
use Rattle.placing.specs.Kept.{IsRight, kept_at}
use Rattle.placing.specs.Nodes.{IsLive, NodeTrees, bare}
use Rattle.placing.proofs.Bares.{live_from}
use Rattle.text_scan.specs.declared.line.Line.{Line}
use Rattle.box_layout.specs.LastBoxes.{AreFound, Found}
use Rattle.page_tests.specs.Ready.{IsReady}

short_joined : (lines more : List Line) → AreShort lines → AreShort more → AreShort (lines ++ more)
short_joined [] more s t = t
short_joined (line ∷ lines) more s t = (s.0, short_joined lines more s.1 t)

pub short_more : (lines next : List Line) (line : Line) → next ≡ lines ++ line ∷ [] → length line.bytes ≤ 65536 → AreShort lines → AreShort next
short_more lines next line e h s = subst AreShort (sym e) (short_joined lines (line ∷ []) s (h, tt))

pub ready_first : (doc : Doc) (page : Held) → document_of page ≡ doc → IsRight page.nodes.tree → IsValid doc → IsReady page
ready_first doc page e r v = record { valid = subst IsValid (sym e) v; right = r }

pub ready_next : (old new : Held) → document_of new ≡ document_of old → IsRight new.nodes.tree → IsReady old → IsReady new
ready_next old new e r h = record { valid = subst IsValid (sym e) h.valid; right = r }

pub live_named : (page : Held) (id : NodeId) → IsSome (part_at page.nodes.tree id) → IsLive (bare page.nodes.tree) id
live_named page id h = live_from page.nodes.tree id h

-- where nothing was found last it holds
pub none_right : (t : NodeTrees) (last : List Found) → last ≡ [] → AreFound (bare t) (kept_at t) last
none_right t last e f here live = let there = subst (λ (l : List Found). Contains l f) e here in absurd (omega (arith, there.1))

pub ruleset ready_laws = (short_more, ready_first, ready_next, live_named)
