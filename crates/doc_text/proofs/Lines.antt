-- The nodes of lines, one after another.
use Rattle.std.proofs.Common.{◌≡◌, ℕ, ◌+◌, ◌<◌, ◌≤◌, true, false, List, ◌∷◌, drop, get_or, length, Ok, Err, refl, drop-cons, add-one}
use Rattle.std.proofs.lemmas.List.{drop_all}
use Rattle.text_scan.specs.declared.line.Fault.{Fault}
use Rattle.text_scan.specs.declared.line.Line.{Line}
use Rattle.text_scan.specs.Tokens.{is_skipped}
use Rattle.plain_tree.specs.Trees.{Trees}
use Rattle.doc_text.specs.Label.{Label}
use Rattle.doc_text.specs.Documents.{node_of, nodes_of}

from_line : (lines : List Line) (i : ℕ) (d : Line) → i < length lines → drop i lines ≡ get_or lines i d ∷ drop (i + 1) lines
from_line lines i d h = rw add-one (drop-cons lines i d h)

pub all_read : (version : ℕ) (lines : List Line) (i : ℕ) (trees : Trees Label) → length lines ≤ i → nodes_of version (drop i lines) trees ≡ Ok trees
all_read version lines i trees h = rw (drop_all i lines h) refl

pub one_skipped : (version : ℕ) (lines : List Line) (i : ℕ) (d : Line) (trees : Trees Label) → i < length lines → is_skipped (get_or lines i d) ≡ true
    → nodes_of version (drop i lines) trees ≡ nodes_of version (drop (i + 1) lines) trees
one_skipped version lines i d trees h s = rw (from_line lines i d h, s) refl

pub one_read : (version : ℕ) (lines : List Line) (i : ℕ) (d : Line) (trees more : Trees Label) → i < length lines → is_skipped (get_or lines i d) ≡ false
    → node_of version (get_or lines i d) trees ≡ Ok more → nodes_of version (drop i lines) trees ≡ nodes_of version (drop (i + 1) lines) more
one_read version lines i d trees more h s e = rw (from_line lines i d h, s, e) refl

pub one_bad : (version : ℕ) (lines : List Line) (i : ℕ) (d : Line) (trees : Trees Label) (fault : Fault) → i < length lines → is_skipped (get_or lines i d) ≡ false
    → node_of version (get_or lines i d) trees ≡ Err fault → nodes_of version (drop i lines) trees ≡ Err fault
one_bad version lines i d trees fault h s e = rw (from_line lines i d h, s, e) refl

pub ruleset reading = (all_read, one_skipped, one_read, one_bad)
