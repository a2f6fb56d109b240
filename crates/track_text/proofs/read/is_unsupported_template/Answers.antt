use Rattle.std.proofs.Common.{rules, ◌≡◌, ◌∷◌, [], List, Bool, false, ap, ◌∙◌, sym, codes}
use Rattle.std.specs.Str.{bytes_eq}
use Rattle.track_text.specs.Words.{Word}
use Rattle.track_text.specs.Unsupported.{outside, is_unsupported}
use Rattle.track_text.proofs.Scans.{found, here, all_left, none_left, found_here, not_here, or_same, or_other}
use Rattle.track_text.proofs.read.is_unsupported_template.Goals as goal

pub loop-word-init : goal.loop-word-init
loop-word-init c = all_left c.args.relative c.args.words

pub returns-then-is_unsupported_at : goal.returns-then-is_unsupported_at
returns-then-is_unsupported_at c =
    let word = c.in-Some.word.now in
    let rest = c.in-Some.rest in
    let s = c.loop-word.after_subgrid in
    let e : c.loop-word.words ≡ word ∷ rest = search rules in
    let left : found c.args.relative s (outside false (word ∷ rest)) ≡ is_unsupported c.args.relative c.args.words =
    ap (λ (b : Bool). found c.args.relative s (outside b (word ∷ rest))) (sym c.if-within.false) ∙ ap (λ (words : List Word). found c.args.relative s (outside c.loop-word.within words)) (sym e) ∙ c.loop-word.invariant in
    sym (found_here c.args.relative s word rest (search rules)) ∙ left

pub loop-word-preserved-then-after_subgrid : goal.loop-word-preserved-then-after_subgrid
loop-word-preserved-then-after_subgrid c =
    let word = c.in-Some.word.now in
    let rest = c.in-Some.rest in
    let s = c.loop-word.after_subgrid in
    let e : c.loop-word.words ≡ word ∷ rest = search rules in
    let w : c.eq-within.result ≡ bytes_eq word (codes "[") = search rules in
    let h : here c.args.relative s word rest ≡ false = search rules in
    let left : found c.args.relative s (outside false (word ∷ rest)) ≡ is_unsupported c.args.relative c.args.words =
    ap (λ (b : Bool). found c.args.relative s (outside b (word ∷ rest))) (sym c.if-within.false) ∙ ap (λ (words : List Word). found c.args.relative s (outside c.loop-word.within words)) (sym e) ∙ c.loop-word.invariant in
    ap (λ (b : Bool). found c.args.relative s (outside b rest)) w
    ∙ ap (λ (b : Bool). found c.args.relative b (outside (bytes_eq word (codes "[")) rest)) (or_same s (bytes_eq word (codes "subgrid")) c.if-after_subgrid.true)
    ∙ sym (not_here c.args.relative s word rest h) ∙ left

pub loop-word-preserved : goal.loop-word-preserved
loop-word-preserved c =
    let word = c.in-Some.word.now in
    let rest = c.in-Some.rest in
    let s = c.loop-word.after_subgrid in
    let e : c.loop-word.words ≡ word ∷ rest = search rules in
    let w : c.eq-within.result ≡ bytes_eq word (codes "[") = search rules in
    let g : c.eq-after_subgrid.result ≡ bytes_eq word (codes "subgrid") = search rules in
    let h : here c.args.relative s word rest ≡ false = search rules in
    let left : found c.args.relative s (outside false (word ∷ rest)) ≡ is_unsupported c.args.relative c.args.words =
    ap (λ (b : Bool). found c.args.relative s (outside b (word ∷ rest))) (sym c.if-within.false) ∙ ap (λ (words : List Word). found c.args.relative s (outside c.loop-word.within words)) (sym e) ∙ c.loop-word.invariant in
    ap (λ (b : Bool). found c.args.relative c.eq-after_subgrid.result (outside b rest)) w
    ∙ ap (λ (b : Bool). found c.args.relative b (outside (bytes_eq word (codes "[")) rest)) (or_other s (bytes_eq word (codes "subgrid")) c.eq-after_subgrid.result c.if-after_subgrid.false g)
    ∙ sym (not_here c.args.relative s word rest h) ∙ left

pub returns : goal.returns
returns c =
    let e : c.loop-word.words ≡ [] = search rules in
    sym (none_left c.args.relative c.loop-word.after_subgrid c.loop-word.within)
    ∙ ap (λ (words : List Word). found c.args.relative c.loop-word.after_subgrid (outside c.loop-word.within words)) (sym e)
    ∙ c.loop-word.invariant
