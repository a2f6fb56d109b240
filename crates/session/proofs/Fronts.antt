-- Lines that are skipped play no part in a document, and a fault that does not depend on where the text ends stays whatever lines follow.
use Rattle.std.proofs.Common.{◌≡◌, refl, ap, sym, ◌∙◌, ℕ, ℤ, Bool, true, false, List, [], ◌∷◌, ◌++◌, Result, Ok, Err, arith}
use Rattle.std.specs.Prelude.{◌==◌, if◌then◌else◌}
use Rattle.std.proofs.lemmas.Bool.{eqb-true}
use Rattle.text_scan.specs.declared.line.Fault.{Fault}
use Rattle.text_scan.specs.declared.line.Line.{Line}
use Rattle.text_scan.specs.declared.line.Place.{Place}
use Rattle.text_scan.specs.Tokens.{is_skipped}
use Rattle.track_text.specs.Gives.{fault_at}
use Rattle.plain_tree.specs.Trees.{Trees, leafless, tree}
use Rattle.doc_text.specs.Label.{Label}
use Rattle.doc_text.specs.Texts.{◌>>=◌}
use Rattle.doc_text.specs.Documents.{from_counted, version_in, viewport_in, header, node_of, nodes_of, rooted, sized, headed, document_of}
use Rattle.doc_text.proofs.Told.{ok-not-err, same-err}
use Rattle.session.specs.Serving.{BeginsNone}

bind_same : {A B : Type 0} (read : Result A Fault) (f g : A → Result B Fault) → ((a : A) → f a ≡ g a) → (read >>= f) ≡ (read >>= g)
bind_same (Ok a) f g h = h a
bind_same (Err fault) f g h = refl

-- ---- a line that is skipped

module _ (line : Line) (more : List Line) (e : is_skipped line ≡ true) where
  nodes_without : (version : ℕ) (lines : List Line) (trees : Trees Label) → nodes_of version (lines ++ line ∷ more) trees ≡ nodes_of version (lines ++ more) trees
  nodes_without version [] trees = ap (λ (b : Bool). if b then nodes_of version more trees else node_of version line trees >>= nodes_of version more) e
  nodes_without version (first ∷ lines) trees = by_skip (is_skipped first) (nodes_without version lines)
    where
      by_skip : (b : Bool) → ((t : Trees Label) → nodes_of version (lines ++ line ∷ more) t ≡ nodes_of version (lines ++ more) t)
          → (if b then nodes_of version (lines ++ line ∷ more) trees else node_of version first trees >>= nodes_of version (lines ++ line ∷ more))
          ≡ (if b then nodes_of version (lines ++ more) trees else node_of version first trees >>= nodes_of version (lines ++ more))
      by_skip true h = h trees
      by_skip false h = bind_same (node_of version first trees) (nodes_of version (lines ++ line ∷ more)) (nodes_of version (lines ++ more)) h

  sized_without : (version : ℕ) (end : Place) (lines : List Line) → sized version end (from_counted (lines ++ line ∷ more)) ≡ sized version end (from_counted (lines ++ more))
  sized_without version end [] = ap (λ (b : Bool). sized version end (if b then from_counted more else line ∷ more)) e
  sized_without version end (first ∷ lines) = by_skip (is_skipped first) (sized_without version end lines)
    where
      by_skip : (b : Bool) → sized version end (from_counted (lines ++ line ∷ more)) ≡ sized version end (from_counted (lines ++ more))
          → sized version end (if b then from_counted (lines ++ line ∷ more) else first ∷ (lines ++ line ∷ more)) ≡ sized version end (if b then from_counted (lines ++ more) else first ∷ (lines ++ more))
      by_skip true h = h
      by_skip false h =
          bind_same (header viewport_in first) (λ size. nodes_of version (lines ++ line ∷ more) leafless >>= rooted version size end) (λ size. nodes_of version (lines ++ more) leafless >>= rooted version size end)
          (λ size. ap (λ (r : Result (Trees Label) Fault). r >>= rooted version size end) (nodes_without version lines leafless))

  -- a document is the same without it
  pub skipped_line : (lines : List Line) (end : Place) → document_of (lines ++ line ∷ more) end ≡ document_of (lines ++ more) end
  skipped_line [] end = ap (λ (b : Bool). headed end (if b then from_counted more else line ∷ more)) e
  skipped_line (first ∷ lines) end = by_skip (is_skipped first) (skipped_line lines end)
    where
      by_skip : (b : Bool) → headed end (from_counted (lines ++ line ∷ more)) ≡ headed end (from_counted (lines ++ more))
          → headed end (if b then from_counted (lines ++ line ∷ more) else first ∷ (lines ++ line ∷ more)) ≡ headed end (if b then from_counted (lines ++ more) else first ∷ (lines ++ more))
      by_skip true h = h
      by_skip false h =
          bind_same (header version_in first) (λ version. sized version end (from_counted (lines ++ line ∷ more))) (λ version. sized version end (from_counted (lines ++ more)))
          (λ version. sized_without version end lines)

-- ---- a fault that stays

module _ (more : List Line) (fault : Fault) where
  nodes_stay : (version : ℕ) (lines : List Line) (trees : Trees Label) → nodes_of version lines trees ≡ Err fault → nodes_of version (lines ++ more) trees ≡ Err fault
  nodes_stay version [] trees h = absurd (ok-not-err trees fault (sym h))
  nodes_stay version (first ∷ lines) trees h = by_skip (is_skipped first) h (nodes_stay version lines)
    where
      by_node : (read : Result (Trees Label) Fault) → (read >>= nodes_of version lines) ≡ Err fault → ((t : Trees Label) → nodes_of version lines t ≡ Err fault → nodes_of version (lines ++ more) t ≡ Err fault)
          → (read >>= nodes_of version (lines ++ more)) ≡ Err fault
      by_node (Ok t) h next = next t h
      by_node (Err other) h next = h

      by_skip : (b : Bool) → (if b then nodes_of version lines trees else node_of version first trees >>= nodes_of version lines) ≡ Err fault
          → ((t : Trees Label) → nodes_of version lines t ≡ Err fault → nodes_of version (lines ++ more) t ≡ Err fault)
          → (if b then nodes_of version (lines ++ more) trees else node_of version first trees >>= nodes_of version (lines ++ more)) ≡ Err fault
      by_skip true h next = next trees h
      by_skip false h next = by_node (node_of version first trees) h next

-- a fault comes where the text ends at one place, and one where it ends at another, and neither is at its place
module _ (one two end : Place) (first_fault second_fault : Fault) (apart : one ≡ first_fault.place → two ≡ second_fault.place → ⊥) (more : List Line) where
  ends_apart : {A : Type 0} (number : ℕ) → ◌≡◌ {A = Result A Fault} (Err (fault_at number one)) (Err first_fault) → ◌≡◌ {A = Result A Fault} (Err (fault_at number two)) (Err second_fault) → ⊥
  ends_apart {A} number p q = apart (ap (λ (f : Fault). f.place) (same-err {A = A} _ _ p)) (ap (λ (f : Fault). f.place) (same-err {A = A} _ _ q))

  rooted_stays : (version : ℕ) (size : ℤ × ℤ) (lines : List Line) (read : Result (Trees Label) Fault) → nodes_of version lines leafless ≡ read → (read >>= rooted version size one) ≡ Err first_fault → (read >>= rooted version size two) ≡ Err second_fault
      → (nodes_of version (lines ++ more) leafless >>= rooted version size end) ≡ Err first_fault
  rooted_stays version size lines (Ok leafless) r p q = absurd (ends_apart 16 p q)
  rooted_stays version size lines (Ok (tree x below after)) r p q = absurd (ok-not-err _ first_fault (sym p))
  rooted_stays version size lines (Err other) r p q =
      ap (λ (n : Result (Trees Label) Fault). n >>= rooted version size end) (nodes_stay more other version lines leafless r) ∙ p

  size_stays : (version : ℕ) (lines : List Line) (read : Result (ℤ × ℤ) Fault)
      → (read >>= λ size. nodes_of version lines leafless >>= rooted version size one) ≡ Err first_fault
      → (read >>= λ size. nodes_of version lines leafless >>= rooted version size two) ≡ Err second_fault
      → (read >>= λ size. nodes_of version (lines ++ more) leafless >>= rooted version size end) ≡ Err first_fault
  size_stays version lines (Ok size) p q = rooted_stays version size lines (nodes_of version lines leafless) refl p q
  size_stays version lines (Err other) p q = p

  sized_stays : (version : ℕ) (lines : List Line) → sized version one (from_counted lines) ≡ Err first_fault → sized version two (from_counted lines) ≡ Err second_fault → sized version end (from_counted (lines ++ more)) ≡ Err first_fault
  sized_stays version [] p q = absurd (ends_apart 3 p q)
  sized_stays version (first ∷ lines) p q = by_skip (is_skipped first) p q (sized_stays version lines)
    where
      by_skip : (b : Bool) → sized version one (if b then from_counted lines else first ∷ lines) ≡ Err first_fault → sized version two (if b then from_counted lines else first ∷ lines) ≡ Err second_fault
          → (sized version one (from_counted lines) ≡ Err first_fault → sized version two (from_counted lines) ≡ Err second_fault → sized version end (from_counted (lines ++ more)) ≡ Err first_fault)
          → sized version end (if b then from_counted (lines ++ more) else first ∷ (lines ++ more)) ≡ Err first_fault
      by_skip true p q next = next p q
      by_skip false p q next = size_stays version lines (header viewport_in first) p q

  version_stays : (lines : List Line) (read : Result ℕ Fault)
      → (read >>= λ version. sized version one (from_counted lines)) ≡ Err first_fault
      → (read >>= λ version. sized version two (from_counted lines)) ≡ Err second_fault
      → (read >>= λ version. sized version end (from_counted (lines ++ more))) ≡ Err first_fault
  version_stays lines (Ok version) p q = sized_stays version lines p q
  version_stays lines (Err other) p q = p

  document_stays : (lines : List Line) → document_of lines one ≡ Err first_fault → document_of lines two ≡ Err second_fault → document_of (lines ++ more) end ≡ Err first_fault
  document_stays [] p q = absurd (ends_apart 3 p q)
  document_stays (first ∷ lines) p q = by_skip (is_skipped first) p q (document_stays lines)
    where
      by_skip : (b : Bool) → headed one (if b then from_counted lines else first ∷ lines) ≡ Err first_fault → headed two (if b then from_counted lines else first ∷ lines) ≡ Err second_fault
          → (headed one (from_counted lines) ≡ Err first_fault → headed two (from_counted lines) ≡ Err second_fault → headed end (from_counted (lines ++ more)) ≡ Err first_fault)
          → headed end (if b then from_counted (lines ++ more) else first ∷ (lines ++ more)) ≡ Err first_fault
      by_skip true p q next = next p q
      by_skip false p q next = version_stays lines (header version_in first) p q

abbrev at_line : ℕ → Place
at_line line = record { line = line; column = 1 }

pub begins_none : (lines : List Line) (first second : Fault) → document_of lines (at_line 1) ≡ Err first → document_of lines (at_line 2) ≡ Err second → (first.place.line == second.place.line) ≡ true → BeginsNone lines
begins_none lines first second p q same =
    record {
      fault = first;
      stays = λ more end. document_stays (at_line 1) (at_line 2) end first second (λ e f. not_same (ap (λ (at : Place). at.line) e) (ap (λ (at : Place). at.line) f)) more lines p q;
    }
  where
    not_same : 1 ≡ first.place.line → 2 ≡ second.place.line → ⊥
    not_same e f =
        let equal : first.place.line ≡ second.place.line = eqb-true first.place.line second.place.line same in
        absurd (omega (arith, e, f, equal))

pub ruleset fronts = (begins_none)
