-- Pieces of the input and the lines that are given of them, one after another.
use Rattle.std.proofs.Common.{◌≡◌, subst, ℕ, ◌+◌, ◌<◌, ◌≤◌, ◌||◌, Bool, true, false, List, [], ◌∷◌, ◌++◌, take, Option, Some, None, Ok, Err, length, sym, ap, ◌∙◌, refl, arith, append_assoc, append-nil, length-append, option_to_list}
use Rattle.std.proofs.lemmas.Bool.{false≢true}
use Rattle.std.specs.Prelude.{if◌then◌else◌, IfSome}
use Rattle.outside.specs.Told.{Loses, IsSpent}
use Rattle.outside.proofs.Laws.{loses_none, loses_more}
use Rattle.text_scan.specs.declared.line.Line.{Line}
use Rattle.text_scan.specs.Lines.{lines_of, lines_from, has_line_feed, whole_lines, line_of}
use Rattle.text_scan.specs.Stream.{Stream, empty_stream, is_line_due, next_line, after_next, lines_ahead, HasRead}
use Rattle.text_scan.proofs.Reading.{read_start, read_whole, next_ahead, takes_next, drained}
use Rattle.session.specs.Input.{limit, AsksOnce, AsksSoFar, IsReadToEnd, IsFront, AreFirst, HasGiven, HasGivenLine, HasGivenAll, Stops, MeetsPiece, TakesPiece, StopsAtPiece}
use Rattle.session.proofs.Options.{none_is_no, some_same}
use Rattle.std.proofs.lemmas.List.{length-take}
use Rattle.session.specs.declared.status.Status.{Status}
use Rattle.session.specs.declared.status.Status.TheVariants.{Done, BadDocument, SomeRefused, ReadFault, WriteFault, NoMemory, InputLimit, TooLong, BadWords}

-- nothing was given yet
pub given_none : (before : Option (List ℕ)) → HasGiven before before [] empty_stream false
given_none before =
    record {
      bytes = [];
      taken = loses_none before;
      fed = refl;
      number = refl;
      within = omega arith;
      ahead = λ more h. refl;
      reads = λ _. read_start;
      spent = λ e. absurd (false≢true e);
      last = record
          { front = []; piece = []; split = refl; short = omega arith; before = record { rest = []; parts = refl } };
    }

-- the lines given are the first of all
pub first_given : (before now : Option (List ℕ)) (given : List Line) (stream : Stream) (ended : Bool) → HasGiven before now given stream ended → AreFirst before given
first_given None now given stream ended p = tt
first_given (Some told) None given stream ended p = absurd p.taken
first_given (Some told) (Some left) given stream ended p =
    record { rest = lines_ahead stream left; parts = p.ahead left p.spent ∙ ap lines_of (sym p.taken) }

-- ---- one piece

or_false : (b : Bool) → (b || false) ≡ false → b ≡ false
or_false true e = e
or_false false e = refl

take_front : (xs ys : List ℕ) → take (length xs) (xs ++ ys) ≡ xs
take_front [] ys = refl
take_front (x ∷ xs) ys = ap (λ (l : List ℕ). x ∷ l) (take_front xs ys)

module _ (before left left' : Option (List ℕ)) (given : List Line) (stream stream' : Stream) (p : HasGiven before left given stream false) where
  on_piece : (piece : List ℕ) (count : ℕ) → is_line_due false stream.held ≡ false → TakesPiece left left' stream stream' piece count → HasGiven before left' given stream' false
  on_piece piece count none q =
      let long : length (p.bytes ++ piece) ≡ length p.bytes + length piece = length-append p.bytes piece in
      record {
        bytes = p.bytes ++ piece;
        taken = loses_more before left left' p.bytes piece _ p.taken q.taken refl;
        fed = omega (arith, long, q.fed, q.counted, p.fed);
        number = q.number ∙ p.number;
        within = omega (arith, long, q.fed, q.counted, q.within, p.fed);
        ahead = λ more h. ap (λ (l : List Line). given ++ l) (q.ahead more) ∙ p.ahead (piece ++ more) (λ e. absurd (false≢true e)) ∙ ap lines_of (sym (append_assoc p.bytes piece more));
        reads = λ e. q.reads p.bytes given (p.reads e);
        spent = λ e. absurd (false≢true e);
        last = record {
          front = p.bytes;
          piece = piece;
          split = refl;
          short = q.short;
          before = record { rest = []; parts = append-nil (lines_of (whole_lines p.bytes)) ∙ sym (read_whole p.bytes given stream (or_false (has_line_feed stream.held) none) (p.reads refl)) };
        };
      }

  stops_at : (status : Status) (piece : List ℕ) → is_line_due false stream.held ≡ false → Loses left left' piece → StopsAtPiece left left' stream piece status → Stops before left' given status
  stops_at Done piece none t s = absurd s
  stops_at BadDocument piece none t s = absurd s
  stops_at SomeRefused piece none t s = absurd s
  stops_at WriteFault piece none t s = absurd s
  stops_at TooLong piece none t s = absurd s
  stops_at BadWords piece none t s = absurd s
  stops_at NoMemory piece none t s = record { bytes = p.bytes ++ piece; taken = loses_more before left left' p.bytes piece _ p.taken t refl; first = first_given before left given stream false p }
  stops_at ReadFault piece none t s =
      let same : p.bytes ++ piece ≡ p.bytes = ap (λ (l : List ℕ). p.bytes ++ l) s ∙ append-nil p.bytes in
      record {
        bytes = p.bytes;
        taken = loses_more before left left' p.bytes piece p.bytes p.taken t (sym same);
        few = p.within;
        lines = read_whole p.bytes given stream (or_false (has_line_feed stream.held) none) (p.reads refl);
        first = first_given before left given stream false p;
      }
  stops_at InputLimit piece none t s =
      let long : length p.bytes ≡ limit = sym p.fed ∙ s.0 in
      let front : take limit (p.bytes ++ piece) ≡ p.bytes = subst (λ (n : ℕ). take n (p.bytes ++ piece) ≡ p.bytes) long (take_front p.bytes piece) in
      record {
        bytes = p.bytes ++ piece;
        taken = loses_more before left left' p.bytes piece _ p.taken t refl;
        passed = omega (arith, length-append p.bytes piece, long, s.1);
        lines = read_whole p.bytes given stream (or_false (has_line_feed stream.held) none) (p.reads refl) ∙ ap (λ (b : List ℕ). lines_of (whole_lines b)) (sym front);
        first = first_given before left given stream false p;
      }

pub piece_more : (before left left' : Option (List ℕ)) (given : List Line) (stream stream' : Stream) (count : ℕ)
    → HasGiven before left given stream false → is_line_due false stream.held ≡ false → MeetsPiece left left' stream stream' (Ok count) → HasGiven before left' given stream' false
piece_more before left left' given stream stream' count p none q = on_piece before left left' given stream stream' p q.piece count none q.met

pub piece_stops : (before left left' : Option (List ℕ)) (given : List Line) (stream stream' : Stream) (status : Status)
    → HasGiven before left given stream false → is_line_due false stream.held ≡ false → MeetsPiece left left' stream stream' (Err status) → Stops before left' given status
piece_stops before left left' given stream stream' status p none q = stops_at before left left' given stream stream' p status q.piece none q.taken q.met

-- ---- how often the source was asked

-- not yet
pub asks_none : (left : Option (List ℕ)) (asked count : ℕ) (ended : Bool) → count ≡ 0 → ended ≡ false → AsksSoFar left left asked asked count ended
asks_none left asked count ended c e = record { bytes = []; taken = loses_none left; counted = sym c; within = omega (arith, c); each = omega arith }

pub asks_unread : (left : Option (List ℕ)) (asked : ℕ) → AsksOnce left left asked asked
asks_unread left asked = record { bytes = []; taken = loses_none left; each = omega arith; most = omega arith }

-- where it goes on no more
pub asks_done : (left left' : Option (List ℕ)) (asked asked' count : ℕ) (ended : Bool) → AsksSoFar left left' asked asked' count ended → AsksOnce left left' asked asked'
asks_done left left' asked asked' count true p = record { bytes = p.bytes; taken = p.taken; each = omega (arith, p.each, p.counted); most = omega (arith, p.each, p.within) }
asks_done left left' asked asked' count false p = record { bytes = p.bytes; taken = p.taken; each = omega (arith, p.each, p.counted); most = omega (arith, p.each, p.within) }

module _ (before left left' : Option (List ℕ)) (first asked asked' count : ℕ) (stream stream' : Stream) (p : AsksSoFar before left first asked count false) (once : asked' ≤ asked + 1) where
  -- a piece more, and the end
  pub asks_more : (taken : ℕ) → MeetsPiece left left' stream stream' (Ok taken) → stream.fed ≡ count → 0 < taken → AsksSoFar before left' first asked' (count + taken) false
  asks_more taken q fed some =
      record {
        bytes = p.bytes ++ q.piece;
        taken = loses_more before left left' p.bytes q.piece _ p.taken q.taken refl;
        counted = omega (arith, length-append p.bytes q.piece, p.counted, q.met.counted);
        within = omega (arith, q.met.within, q.met.fed, fed);
        each = omega (arith, p.each, once, some);
      }

  pub asks_end : (taken : ℕ) → MeetsPiece left left' stream stream' (Ok taken) → taken ≡ 0 → AsksSoFar before left' first asked' count true
  asks_end taken q none =
      record {
        bytes = p.bytes ++ q.piece;
        taken = loses_more before left left' p.bytes q.piece _ p.taken q.taken refl;
        counted = omega (arith, length-append p.bytes q.piece, p.counted, q.met.counted, none);
        within = p.within;
        each = omega (arith, p.each, once);
      }

  -- reading stopped
  pub asks_stop : (status : Status) → MeetsPiece left left' stream stream' (Err status) → AsksOnce before left' first asked'
  asks_stop status q =
      record {
        bytes = p.bytes ++ q.piece;
        taken = loses_more before left left' p.bytes q.piece _ p.taken q.taken refl;
        each = omega (arith, length-append p.bytes q.piece, p.counted, p.each, once);
        most = omega (arith, p.each, p.within, once);
      }

pub ruleset going_on = (piece_more, piece_stops, asks_more, asks_end, asks_stop)

-- ---- one line

number_next : (b : Bool) (line found : Line) (s : Stream) (rest : List ℕ) → Some line ≡ (if b then Some found else None) → (if b then record { number = s.number + 1; fed = s.fed; held = rest } else s).number ≡ s.number + 1
number_next true line found s rest e = refl
number_next false line found s rest e = none_is_no line (sym e)

fed_next : (b : Bool) (s : Stream) (rest : List ℕ) → (if b then record { number = s.number + 1; fed = s.fed; held = rest } else s).fed ≡ s.fed
fed_next true s rest = refl
fed_next false s rest = refl

same_next : (b : Bool) (s : Stream) (rest : List ℕ) → b ≡ false → (if b then record { number = s.number + 1; fed = s.fed; held = rest } else s) ≡ s
same_next true s rest e = absurd (false≢true (sym e))
same_next false s rest e = refl

module _ (before now : Option (List ℕ)) (given : List Line) (stream stream' : Stream) (ended : Bool) (p : HasGiven before now given stream ended) (s : stream' ≡ after_next ended stream) where
  line_more : (line : Line) → Some line ≡ next_line ended stream → HasGiven before now (given ++ line ∷ []) stream' ended
  line_more line l =
      let number : stream'.number ≡ stream.number + 1 = ap (λ (x : Stream). x.number) s ∙ number_next (is_line_due ended stream.held) line _ stream _ l in
      let fed : stream'.fed ≡ stream.fed = ap (λ (x : Stream). x.fed) s ∙ fed_next (is_line_due ended stream.held) stream _ in
      record {
        bytes = p.bytes;
        taken = p.taken;
        fed = fed ∙ p.fed;
        number = omega (arith, number, p.number, length-append given (line ∷ []));
        within = p.within;
        ahead = λ more h. append_assoc given (line ∷ []) (lines_ahead stream' more) ∙ ap (λ (x : List Line). given ++ x) (line_ahead more h) ∙ p.ahead more h;
        reads = λ e. subst (λ (x : Stream). HasRead p.bytes (given ++ line ∷ []) x) (sym s) (subst (λ (o : Option Line). HasRead p.bytes (given ++ option_to_list o) (after_next ended stream)) (sym l) ((takes_next ended p.bytes given stream (p.reads e)).more e));
        spent = p.spent;
        last = record { front = p.last.front; piece = p.last.piece; split = p.last.split; short = p.last.short; before = one_longer p.last.before };
      }
    where
      one_longer : {first : List Line} → IsFront first given → IsFront first (given ++ line ∷ [])
      one_longer {first = first} f = record { rest = f.rest ++ line ∷ []; parts = sym (append_assoc first f.rest (line ∷ [])) ∙ ap (λ (x : List Line). x ++ line ∷ []) f.parts }

      line_ahead : (more : List ℕ) → (ended ≡ true → more ≡ []) → line ∷ lines_ahead stream' more ≡ lines_ahead stream more
      line_ahead more h = subst (λ (x : Stream). line ∷ lines_ahead x more ≡ lines_ahead stream more) (sym s) (subst (λ (o : Option Line). option_to_list o ++ lines_ahead (after_next ended stream) more ≡ lines_ahead stream more) (sym l) (next_ahead ended stream more h))

  -- the next line is given
  pub with_line : (line : Line) → Some line ≡ next_line ended stream → HasGivenLine before now given line stream' ended
  unfolding line_more
  with_line line l = record { all = line_more line l; last = p.last }

  pub none_due : is_line_due ended stream.held ≡ false → HasGiven before now given stream' ended
  none_due none = subst (λ (x : Stream). HasGiven before now given x ended) (sym (s ∙ same_next (is_line_due ended stream.held) stream _ none)) p

short_line : (number : ℕ) (bytes : List ℕ) (line : Line) → line ≡ line_of number bytes → length line.bytes ≤ 65536
short_line number bytes line e = omega (arith, ap (λ (l : Line). length l.bytes) e, length-take 65536 bytes)

-- no line has more than 65,536 bytes
pub short_next : (b : Bool) (line : Line) (number : ℕ) (bytes : List ℕ) → Some line ≡ (if b then Some (line_of number bytes) else None) → length line.bytes ≤ 65536
short_next true line number bytes e = short_line number bytes line (some_same line (line_of number bytes) e)
short_next false line number bytes e = none_is_no line (sym e)

-- where no line is due, reading goes on
pub stays_open : (before now : Option (List ℕ)) (given : List Line) (stream stream' : Stream) (ended : Bool) → HasGiven before now given stream ended → stream' ≡ after_next ended stream
    → is_line_due ended stream.held ≡ false → ended ≡ false → HasGiven before now given stream' false
stays_open before now given stream stream' ended p s none e =
    subst (λ (b : Bool). HasGiven before now given stream' b) e (none_due before now given stream stream' ended p s none)

read_to_end : (before now : Option (List ℕ)) (bytes : List ℕ) → Loses before now bytes → IfSome before (λ b. IsSpent now) → IsReadToEnd before now bytes
read_to_end None now bytes p s = tt
read_to_end (Some told) None bytes p s = absurd p
read_to_end (Some told) (Some left) bytes p s = (p ∙ ap (λ (l : List ℕ). bytes ++ l) s ∙ append-nil bytes, s)

-- at the end of the input all lines were given where none is due
all_given : (before now : Option (List ℕ)) (given : List Line) (stream : Stream) → HasGiven before now given stream true → is_line_due true stream.held ≡ false → HasGivenAll before now given
all_given before now given stream p none =
    record {
      bytes = p.bytes;
      taken = p.taken;
      few = p.within;
      whole = read_to_end before now p.bytes p.taken (p.spent refl);
      lines =
          sym (append-nil given)
          ∙ ap (λ (held : List ℕ). given ++ lines_from stream.number (held ++ [])) (sym (drained stream.held none))
          ∙ p.ahead [] (λ _. refl)
          ∙ ap lines_of (append-nil p.bytes);
    }

pub given_end : (before now : Option (List ℕ)) (given : List Line) (stream : Stream) (ended : Bool) → HasGiven before now given stream ended → ended ≡ true → is_line_due ended stream.held ≡ false → HasGivenAll before now given
given_end before now given stream true p e none = all_given before now given stream p none
given_end before now given stream false p e none = absurd (false≢true e)

pub no_memory : (before now : Option (List ℕ)) (given : List Line) (stream : Stream) (ended : Bool) → HasGiven before now given stream ended → Stops before now given NoMemory
no_memory before now given stream ended p = record { bytes = p.bytes; taken = p.taken; first = first_given before now given stream ended p }

pub ruleset giving = (with_line, none_due, given_end, no_memory, asks_done)
