-- The lines of names that levels share.
use Rattle.std.proofs.Common.{arith, rules, tests, refl, sym, ap, subst, ◌∙◌, ◌≡◌, ℕ, zero, suc, ◌+◌, ◌<◌, ◌≤◌, ℤ, pos, negsuc, neg_ℤ, ◌+ℤ◌, ◌-ℤ◌, ◌<ℤ◌, ◌≤ℤ◌, Bool, true, false, ◌==◌, ◌||◌, List, [], ◌∷◌, ◌++◌, length, take, drop, get_or}
use Rattle.std.specs.Prelude.{IsTrue, if◌then◌else◌}
use Rattle.std.specs.Str.{bytes_eq}
use Rattle.std.proofs.Math.Bool.{or_comm}
use Rattle.std.proofs.lemmas.Int.{ints}
use Rattle.std.proofs.lemmas.List.{drop_more, take_all}
use Rattle.std.proofs.lemmas.List.Folds.{list_any-append}
use Rattle.lunit.specs.declared.geometry.Span.{Span}
use Rattle.part_rules.specs.LineNames.{NamedSpan, holds_name, lines_by, names_by_areas}
use Rattle.line_names.specs.Indexes.{lines_in, IsIndexOf, IsPart}
use Rattle.line_names.specs.Levels.{told_from, within, names_in, lines_under, own_sets, over, found, seen_in, or_in, either, joined_in, HoldsLines, IsAbove}
use Rattle.line_names.specs.Passing.{among, passing}
use Rattle.line_names.specs.SetLists.{has_name, sets_of}
use Rattle.line_names.specs.Tables.{are_areas, AreLines, IsTableBy}
use Rattle.line_names.specs.declared.index.NameIndex.{NameIndex}
use Rattle.line_names.specs.declared.levels.Level.{Level}
use Rattle.line_names.proofs.Edges.{AddAll, added_names, first_holds, have_names, holds-append, second_holds}
use Rattle.line_names.proofs.Names.{part_same}
use Rattle.line_names.proofs.SetLists.{counted, no_name_at}
use Rattle.line_names.proofs.Told.{told_again, told_none, told_over, over_nothing}
use Rattle.line_names.proofs.Passing.{among_inside, among_told, among_within, passing_fewer, passing_same, passing_told, or_false, named_by, named_passes, names_cut, within_again}

-- ---- what a subgrid sees of the levels above it

cut_over : (low high start : ℤ) (tracks : ℕ) (xs ys : List ℤ) → low ≤ℤ start → (start +ℤ pos tracks) ≤ℤ high → within (pos 0) (pos tracks) (told_from start (over xs ys)) ≡ within (pos 0) (pos tracks) (told_from start (over xs (within low high ys)))
cut_over low high start tracks [] ys h k = sym (within_again low high start tracks ys h k)
cut_over low high start tracks (x ∷ xs) ys h k = refl

abbrev pub names_above : Level → List Level → ℤ → List ℕ → ℤ → Bool
names_above level above start name l = holds_name name (names_in (lines_under level above) (start +ℤ l))

pub start_above : (limit : Span) (base : ℤ) (level : Level) (above : List Level) (start : ℤ) (tracks : ℕ) → IsTableBy limit base level above → limit.start ≤ℤ start → (start +ℤ pos tracks) ≤ℤ limit.end → IsAbove (level ∷ above) (base +ℤ start) tracks (names_above level above start)
start_above limit base level above start tracks t low high =
    λ name.
    let own : List ℤ = lines_in level.index.lines name in
    let below : List ℤ = found above name in
    ap (λ ls. within (pos 0) (pos tracks) ls) (told_again base start (over own below))
    ∙ ap (λ ls. within (pos 0) (pos tracks) (told_from start ls)) (told_over base own below)
    ∙ cut_over limit.start limit.end start tracks (told_from base own) (told_from base below) low high
    ∙ ap (λ ls. within (pos 0) (pos tracks) (told_from start ls)) (t.lines name)
    ∙ names_cut name (lines_under level above) start tracks

-- ---- tables

pub own_is : (level : Level) (sets : List (List (List ℕ))) → level.tracks ≤ 65536 → IsTrue (are_areas level.tracks level.areas) →
    AreLines (λ line. get_or sets line [] ++ names_by_areas (pos line) level.areas) (level.tracks + 1) (own_sets level) → IsIndexOf level.index.lines (own_sets level) →
    IsTableBy (record { start = neg_ℤ (pos 10000); end = pos 10000 }) (pos 0) level []
own_is level sets few areas own index =
    record {
      tracks = few;
      areas = areas;
      fits = record { low = omega (arith, ints); first = omega (arith, ints); some = omega (arith, ints); high = omega (arith, ints) };
      low = omega (arith, ints);
      high = omega (arith, ints);
      named =
          have_names level.tracks level.areas (own_sets level) areas
          (λ name line h k. ap (λ ns. holds_name name ns) (own.named line (omega (arith, h))) ∙ holds-append name (get_or sets line []) (names_by_areas (pos line) level.areas) ∙ second_holds (holds_name name (get_or sets line [])) (holds_name name (names_by_areas (pos line) level.areas)) k);
      lines = λ name. over_nothing (told_from (pos 0) (lines_in level.index.lines name)) ∙ told_none (lines_in level.index.lines name) ∙ index name;
    }

lines_by_at : (names : ℕ → List (List ℕ)) (n start i : ℕ) → i < n → get_or (lines_by names n start) i [] ≡ names (start + i)
lines_by_at names zero start i h = absurd (omega arith)
lines_by_at names (suc n) start zero h = let at : start ≡ start + 0 = omega arith in ap names at
lines_by_at names (suc n) start (suc i) h = let at : start + 1 + i ≡ start + suc i = omega arith in lines_by_at names n (start + 1) i (omega arith) ∙ ap names at

pub lines_by_same : (f g : ℕ → List (List ℕ)) (n start : ℕ) → ((i : ℕ) → start ≤ i → i < start + n → f i ≡ g i) → lines_by f n start ≡ lines_by g n start
lines_by_same f g zero start h = refl
lines_by_same f g (suc n) start h =
    ap (λ x. x ∷ lines_by f n (start + 1)) (h start (omega arith) (omega arith)) ∙ ap (λ xs. g start ∷ xs) (lines_by_same f g n (start + 1) (λ i a b. h i (omega arith) (omega arith)))

-- the names of the levels above count last
counted_last : (name : List ℕ) (ss ar ih : List (List ℕ)) → (holds_name name ih || holds_name name (ss ++ ar)) ≡ holds_name name (ss ++ ar ++ ih)
counted_last name ss ar ih = or_comm (holds_name name ih) (holds_name name (ss ++ ar)) ∙ sym (list_any-append (λ held. bytes_eq held name) (ss ++ ar) ih)

pub sub_is : (limit : Span) (base : ℤ) (parent : Level) (above : List Level) (level : Level) (sets : List (List (List ℕ))) (added : List NamedSpan) →
    IsTableBy limit base parent above → limit.start ≤ℤ level.over.start → (level.over.start +ℤ pos level.tracks) ≤ℤ limit.end → 0 < level.tracks → level.tracks ≤ 20000 →
    IsTrue (are_areas level.tracks level.areas) → ((line : ℕ) → line ≤ level.tracks → get_or (own_sets level) line [] ≡ get_or sets line []) →
    AddAll (lines_under parent above) level.over.start added level.areas → HoldsLines level.index (parent ∷ above) (base +ℤ level.over.start) level.tracks (lines_by (λ line. get_or sets line [] ++ names_by_areas (pos line) added) (level.tracks + 1) 0) →
    IsTableBy (record { start = pos 0; end = pos level.tracks }) (base +ℤ level.over.start) level (parent ∷ above)
sub_is limit base parent above level sets added t low high some few areas kept adds held =
    record {
      tracks = omega arith;
      areas = areas;
      fits = record { low = omega (arith, ints); first = omega (arith, ints); some = omega (arith, ints); high = omega (arith, ints) };
      low = omega (arith, ints, low, t.low);
      high = omega (arith, ints, high, t.high);
      named = have_names level.tracks level.areas (lines_by all (level.tracks + 1) 0) areas (λ name line h k. named name line h k);
      lines = λ name.
          held (names_above parent above level.over.start) (start_above limit base parent above level.over.start level.tracks t low high) name
          ∙ sym (named_by name all (level.tracks + 1) 0 (or_in (names_above parent above level.over.start) own name) (λ i a b. is name i (omega arith)));
    }
  where
    own : List (List (List ℕ))
    own = lines_by (λ line. get_or sets line [] ++ names_by_areas (pos line) added) (level.tracks + 1) 0

    all : ℕ → List (List ℕ)
    all line = get_or (own_sets level) line [] ++ names_by_areas (pos line) level.areas ++ names_in (lines_under parent above) (level.over.start +ℤ pos line)

    named : (name : List ℕ) (line : ℕ) → line ≤ level.tracks → holds_name name (names_by_areas (pos line) level.areas) ≡ true → holds_name name (get_or (lines_by all (level.tracks + 1) 0) line []) ≡ true
    named name line h k =
        let ss : List (List ℕ) = get_or (own_sets level) line [] in
        let ar : List (List ℕ) = names_by_areas (pos line) level.areas in
        let ih : List (List ℕ) = names_in (lines_under parent above) (level.over.start +ℤ pos line) in
        let at : 0 + line ≡ line = omega arith in
        ap (λ ns. holds_name name ns) (lines_by_at all (level.tracks + 1) 0 line (omega arith) ∙ ap all at)
        ∙ holds-append name (ss ++ ar) ih
        ∙ first_holds (holds_name name (ss ++ ar)) (holds_name name ih) (holds-append name ss ar ∙ second_holds (holds_name name ss) (holds_name name ar) k)

    is : (name : List ℕ) (i : ℕ) → i < level.tracks + 1 → or_in (names_above parent above level.over.start) own name (pos i) ≡ holds_name name (all i)
    is name i h =
        let ih : List (List ℕ) = names_in (lines_under parent above) (level.over.start +ℤ pos i) in
        let ad : List (List ℕ) = names_by_areas (pos i) added in
        let ar : List (List ℕ) = names_by_areas (pos i) level.areas in
        let at : 0 + i ≡ i = omega arith in
        ap (λ ns. holds_name name ih || holds_name name ns) (lines_by_at (λ line. get_or sets line [] ++ names_by_areas (pos line) added) (level.tracks + 1) 0 i h ∙ ap (λ line. get_or sets line [] ++ names_by_areas (pos line) added) at)
        ∙ counted_last name (get_or sets i []) ad ih
        ∙ added_names name (get_or sets i []) ad ar ih (adds name (pos i))
        ∙ ap (λ ss. holds_name name (ss ++ ar ++ ih)) (sym (kept i (omega arith)))

-- ---- names that are added

names_in_none : (l : ℤ) → names_in [] l ≡ []
names_in_none (pos n) = refl
names_in_none (negsuc n) = refl

-- an index of nothing holds lines without names
lines_without : (index : NameIndex) (above : List Level) (base : ℤ) (tracks : ℕ) (lines : List (List (List ℕ))) → ((name : List ℕ) → lines_in index.lines name ≡ []) → ((l : ℤ) → names_in lines l ≡ []) → HoldsLines index above base tracks lines
lines_without index above base tracks lines empty bare =
    λ test h name.
    ap (λ own. over (told_from base own) (within (pos 0) (pos tracks) (told_from base (found above name)))) (empty name)
    ∙ h name
    ∙ passing_same (test name) (or_in test lines name) (pos 0) (tracks + 1) (λ l a b. sym (or_false (test name l) (holds_name name (names_in lines l)) (ap (λ ns. holds_name name ns) (bare l))))

bare_at : (n start i : ℕ) → get_or (lines_by (λ line. []) n start) i [] ≡ []
bare_at zero start i = refl
bare_at (suc n) start zero = refl
bare_at (suc n) start (suc i) = bare_at n (start + 1) i

bare_lines : (n : ℕ) (l : ℤ) → names_in (lines_by (λ line. []) n 0) l ≡ []
bare_lines n (pos i) = bare_at n 0 i
bare_lines n (negsuc i) = refl

zero_from : (m : ℕ) → (m == 0) ≡ true → m ≡ 0
zero_from m e = search (rules, tests)

none_by : {a : Type 0} (xs : List a) (empty : Bool) → empty ≡ (length xs == 0) → empty ≡ true → xs ≡ []
none_by [] empty e h = refl
none_by (x ∷ xs) empty e h =
    let none : length (x ∷ xs) ≡ 0 = zero_from (length (x ∷ xs)) (sym e ∙ h) in
    absurd (omega (arith, none))

-- an index of nothing holds the lines of a subgrid that has neither sets nor areas
pub lines_bare : (index : NameIndex) (above : List Level) (base : ℤ) (tracks : ℕ) (sets : List (List (List ℕ))) (areas : List NamedSpan) (no_sets no_areas : Bool) →
    ((name : List ℕ) → lines_in index.lines name ≡ []) → no_sets ≡ (length sets == 0) → no_sets ≡ true → no_areas ≡ (length areas == 0) → no_areas ≡ true →
    HoldsLines index above base tracks (lines_by (λ line. get_or sets line [] ++ names_by_areas (pos line) areas) (tracks + 1) 0)
lines_bare index above base tracks sets areas no_sets no_areas empty e h f k =
    subst (λ s. HoldsLines index above base tracks (lines_by (λ line. get_or s line [] ++ names_by_areas (pos line) areas) (tracks + 1) 0)) (sym (none_by sets no_sets e h))
    (subst (λ a. HoldsLines index above base tracks (lines_by (λ line. get_or [] line [] ++ names_by_areas (pos line) a) (tracks + 1) 0)) (sym (none_by areas no_areas f k))
    (lines_without index above base tracks (lines_by (λ line. []) (tracks + 1) 0) empty (bare_lines (tracks + 1))))

-- ---- a name of a subgrid's own lines

over_either : (xs ys : List ℤ) → (xs ≡ [] → ys ≡ []) → over xs ys ≡ xs
over_either [] ys h = h refl
over_either (x ∷ xs) ys h = refl

-- the lines of a name in a subgrid, its own and those of the levels above
joined_passes : (own : NameIndex) (above : List Level) (base : ℤ) (tracks : ℕ) (lines : List (List (List ℕ))) (test : List ℕ → ℤ → Bool) → IsIndexOf own.lines lines → length lines ≡ tracks + 1 → IsAbove above base tracks test → (name : List ℕ) →
    told_from base (joined_in own above base tracks name) ≡ passing (or_in test lines name) (pos 0) (tracks + 1)
joined_passes own above base tracks lines test index count held name =
    let f : ℤ → Bool = either (lines_in own.lines name) (found above name) base in
    let start : base -ℤ base ≡ pos 0 = omega (arith, ints) in
    passing_told f (λ l. f (base +ℤ l)) base base (tracks + 1) (λ l. let at : l ≡ base +ℤ (l -ℤ base) = omega (arith, ints) in ap f at)
    ∙ ap (λ z. passing (λ l. f (base +ℤ l)) z (tracks + 1)) start
    ∙ passing_same (λ l. f (base +ℤ l)) (or_in test lines name) (pos 0) (tracks + 1) (λ l a b. each l a b)
  where
    named : (l : ℤ) → pos 0 ≤ℤ l → l <ℤ (pos 0 +ℤ pos (tracks + 1)) → among (lines_in own.lines name) l ≡ holds_name name (names_in lines l)
    named l a b =
        ap (λ ls. among ls l) (index name ∙ named_passes name (pos 0) lines (λ x. holds_name name (names_in lines x)) (λ i h. ap (λ x. holds_name name (names_in lines x)) (zero_more i)))
        ∙ among_inside (λ x. holds_name name (names_in lines x)) (pos 0) (length lines) l a (omega (arith, ints, b, count))
      where
        zero_more : (i : ℕ) → pos 0 +ℤ pos i ≡ pos i
        zero_more i = omega (arith, ints)

    over_it : (l : ℤ) → pos 0 ≤ℤ l → l <ℤ (pos 0 +ℤ pos (tracks + 1)) → among (found above name) (base +ℤ l) ≡ test name l
    over_it l a b =
        sym (among_told base (found above name) l)
        ∙ sym (among_within (pos 0) (pos tracks) (told_from base (found above name)) l a (omega (arith, ints, b)))
        ∙ ap (λ ls. among ls l) (held name)
        ∙ among_inside (test name) (pos 0) (tracks + 1) l a b

    each : (l : ℤ) → pos 0 ≤ℤ l → l <ℤ (pos 0 +ℤ pos (tracks + 1)) → either (lines_in own.lines name) (found above name) base (base +ℤ l) ≡ or_in test lines name l
    each l a b =
        let back : (base +ℤ l) -ℤ base ≡ l = omega (arith, ints) in
        ap (λ z. among (lines_in own.lines name) z || among (found above name) (base +ℤ l)) back
        ∙ ap (λ t. t || among (found above name) (base +ℤ l)) (named l a b)
        ∙ ap (λ t. holds_name name (names_in lines l) || t) (over_it l a b)
        ∙ or_comm (holds_name name (names_in lines l)) (test name l)

-- an index of the names of all own lines holds these lines
pub lines_held : (index own : NameIndex) (above : List Level) (base : ℤ) (tracks : ℕ) (lines : List (List (List ℕ))) (done : List ℕ → Bool) → IsIndexOf own.lines lines → length lines ≡ tracks + 1 →
    IsPart index.lines done (joined_in own above base tracks) → ((name : List ℕ) → done name ≡ false → (l : ℤ) → holds_name name (names_in lines l) ≡ false) → HoldsLines index above base tracks lines
lines_held index own above base tracks lines done named count part others = λ test held name. by test held name (done name) refl
  where
    by : (test : List ℕ → ℤ → Bool) → IsAbove above base tracks test → (name : List ℕ) (b : Bool) → done name ≡ b → seen_in index above base (pos 0) (pos tracks) name ≡ passing (or_in test lines name) (pos 0) (tracks + 1)
    by test held name true e =
        ap (λ ls. over (told_from base ls) (within (pos 0) (pos tracks) (told_from base (found above name)))) (part name ∙ ap (λ b. if b then joined_in own above base tracks name else []) e)
        ∙ ap (λ ls. over ls (within (pos 0) (pos tracks) (told_from base (found above name)))) (joined_passes own above base tracks lines test named count held name)
        ∙ over_either (passing (or_in test lines name) (pos 0) (tracks + 1)) (within (pos 0) (pos tracks) (told_from base (found above name)))
        (λ none. held name ∙ passing_fewer (test name) (or_in test lines name) (pos 0) (tracks + 1) (λ l h. or_first_of (test name l) (holds_name name (names_in lines l)) h) none)
      where
        or_first_of : (a b : Bool) → (a || b) ≡ false → a ≡ false
        or_first_of true b h = h
        or_first_of false b h = refl
    by test held name false e =
        ap (λ ls. over (told_from base ls) (within (pos 0) (pos tracks) (told_from base (found above name)))) (part name ∙ ap (λ b. if b then joined_in own above base tracks name else []) e)
        ∙ held name
        ∙ passing_same (test name) (or_in test lines name) (pos 0) (tracks + 1) (λ l a b. sym (or_false (test name l) (holds_name name (names_in lines l)) (others name e l)))

pub held_by_sets : (index own : NameIndex) (above : List Level) (base : ℤ) (tracks : ℕ) (sets : List (List (List ℕ))) (kinds : List ℕ) (n : ℕ) → length sets ≤ n → IsIndexOf own.lines (sets_of sets kinds) → length kinds ≡ tracks + 1 →
    IsPart index.lines (has_name (take n sets)) (joined_in own above base tracks) → HoldsLines index above base tracks (sets_of sets kinds)
held_by_sets index own above base tracks sets kinds n h named count part =
    lines_held index own above base tracks (sets_of sets kinds) (has_name sets) named (counted sets kinds ∙ count)
    (part_same index.lines (has_name (take n sets)) (has_name sets) (joined_in own above base tracks) (λ name. ap (λ ls. has_name ls name) (take_all n sets h)) part)
    (λ name e l. none_of name l e)
  where
    none_of : (name : List ℕ) (l : ℤ) → has_name sets name ≡ false → holds_name name (names_in (sets_of sets kinds) l) ≡ false
    none_of name (pos i) e = no_name_at name sets kinds i e
    none_of name (negsuc i) e = refl

-- ---- what is found

over_some : (xs ys : List ℤ) → ¬ (xs ≡ []) → over xs ys ≡ xs
over_some [] ys h = absurd (h refl)
over_some (x ∷ xs) ys h = refl

pub own_first : (base : ℤ) (xs ys below : List ℤ) → xs ≡ ys → ¬ (xs ≡ []) → told_from base xs ≡ over (told_from base ys) below
own_first base [] ys below e some = absurd (some refl)
own_first base (x ∷ xs) ys below e some = ap (λ ls. over (told_from base ls) below) e

pub seen_above : (index : NameIndex) (above : List Level) (base low high : ℤ) (name : List ℕ) → lines_in index.lines name ≡ [] → seen_in index above base low high name ≡ within low high (told_from base (found above name))
seen_above index above base low high name e = ap (λ own. over (told_from base own) (within low high (told_from base (found above name)))) e

-- the lines of the next level, if it has some
pub found_here : (levels : List Level) (name : List ℕ) (i : ℕ) (level : Level) → i < length levels → level ≡ get_or levels i level → ¬ (lines_in level.index.lines name ≡ []) → found (drop i levels) name ≡ lines_in level.index.lines name
found_here levels name i level h e some =
    ap (λ ls. found ls name) (drop_more levels i level h)
    ∙ ap (λ l. over (lines_in l.index.lines name) (found (drop (i + 1) levels) name)) (sym e)
    ∙ over_some (lines_in level.index.lines name) (found (drop (i + 1) levels) name) some

-- ---- the table of a subgrid

pub sub_table : (limit : Span) (base : ℤ) (parent : Level) (above : List Level) (level : Level) (sets : List (List (List ℕ))) (added : List NamedSpan) (own : Span) (first : ℤ) (levels : List Level) →
    own ≡ record { start = pos 0; end = pos level.tracks } → first ≡ base +ℤ level.over.start → levels ≡ parent ∷ above →
    IsTableBy limit base parent above → limit.start ≤ℤ level.over.start → (level.over.start +ℤ pos level.tracks) ≤ℤ limit.end → 0 < level.tracks → level.tracks ≤ 20000 →
    IsTrue (are_areas level.tracks level.areas) → ((line : ℕ) → line ≤ level.tracks → get_or (own_sets level) line [] ≡ get_or sets line []) →
    AddAll (lines_under parent above) level.over.start added level.areas → HoldsLines level.index levels first level.tracks (lines_by (λ line. get_or sets line [] ++ names_by_areas (pos line) added) (level.tracks + 1) 0) → IsTableBy own first level levels
sub_table limit base parent above level sets added own first levels e f g t low high some few areas kept adds held =
    let all : List (List (List ℕ)) = lines_by (λ line. get_or sets line [] ++ names_by_areas (pos line) added) (level.tracks + 1) 0 in
    let by_levels : HoldsLines level.index (parent ∷ above) first level.tracks all = subst (λ ls. HoldsLines level.index ls first level.tracks all) g held in
    let by_base : HoldsLines level.index (parent ∷ above) (base +ℤ level.over.start) level.tracks all = subst (λ b. HoldsLines level.index (parent ∷ above) b level.tracks all) f by_levels in
    let is : IsTableBy (record { start = pos 0; end = pos level.tracks }) (base +ℤ level.over.start) level (parent ∷ above) = sub_is limit base parent above level sets added t low high some few areas kept adds by_base in
    let at_limit : IsTableBy own (base +ℤ level.over.start) level (parent ∷ above) = subst (λ s. IsTableBy s (base +ℤ level.over.start) level (parent ∷ above)) (sym e) is in
    let at_base : IsTableBy own first level (parent ∷ above) = subst (λ b. IsTableBy own b level (parent ∷ above)) (sym f) at_limit in
    subst (λ ls. IsTableBy own first level ls) (sym g) at_base
