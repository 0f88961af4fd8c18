-- A buffer before a sink, part by part.
use Rattle.std.proofs.Common.{◌≡◌, ℕ, ◌+◌, ◌≤◌, List, [], ◌++◌, length, take, ap, sym, ◌∙◌, subst, arith, Option, true, false, append-nil, append_assoc, length-append, refl, Result, Ok, Err, OnOk, OnErr, is_err}
use Rattle.std.proofs.Math.Seq.{take-append-add}
use Rattle.std.proofs.KnownBytes.{Appends-nil, Appends-trans}
use Rattle.std.specs.Io.KnownBytes.{Appends}
use Rattle.arr_io.specs.Causes.{HasCause, Rose}
use Rattle.arr_io.specs.Taken.{AppendsPart}
use Rattle.arr_io.specs.Buffered.{Finishes, Got, IsFresh, IsWritten, Outgoing, Puts, outgoing}
use Rattle.arr_io.specs.declared.sink.Sink.{Ghosts}
use Rattle.arr_io.specs.declared.sink_buffer.SinkBuffer.{SinkBuffer}

-- ---- fronts

-- all of one piece, and a part of the next
part_behind : (a b c : Option (List ℕ)) (sent waiting : List ℕ) → Appends a b sent → AppendsPart b c waiting → AppendsPart a c (sent ++ waiting)
part_behind a b c sent waiting whole (k, below, front) =
    (length sent + k, omega (arith, length-append sent waiting), subst (Appends a c) (sym (take-append-add sent waiting k)) (Appends-trans a b c sent (take k waiting) whole front))

-- ---- parts one after another

infixl 10 ◌▹◌
-- first the one text, then the other
pub ◌▹◌ : {a b c : Outgoing} {first second : List ℕ} → Puts a b first → Puts b c second → Puts a c (first ++ second)
◌▹◌ {c = c} {first = first} {second = second} one two =
    record { more = λ start before text got. subst (λ t. Got start before t c) (append_assoc text first second) (two.more start before (text ++ first) (one.more start before text got)) }

pub put_as : {a b : Outgoing} {first second : List ℕ} → Puts a b first → first ≡ second → Puts a b second
put_as {a = a} {b = b} one same = subst (Puts a b) same one

pub nothing_put : (a : Outgoing) → Puts a a []
nothing_put a = record { more = λ start before text got. subst (λ t. Got start before t a) (sym (append-nil text)) got }

-- what waited is appended, and then the bytes
put_out : (a b : Outgoing) (bytes : List ℕ) → a.failed ≡ false → b.failed ≡ false → b.waiting ≡ [] → Appends a.written b.written (a.waiting ++ bytes) → a.faults ≤ b.faults → Puts a b bytes
put_out a b bytes was is none_waits out later =
    record {
      more = λ start before text got. record {
        later = omega (arith, got.later);
        whole = λ _. let w = got.whole was in (
          w.0 ++ (a.waiting ++ bytes),
          Appends-trans start a.written b.written w.0 (a.waiting ++ bytes) w.1 out,
          ap (λ t. t ++ bytes) w.2 ∙ append_assoc w.0 a.waiting bytes ∙ sym (append-nil (w.0 ++ (a.waiting ++ bytes))) ∙ ap (λ t. (w.0 ++ (a.waiting ++ bytes)) ++ t) (sym none_waits),
        );
        part = λ broken. absurd (let e : true ≡ false = sym broken ∙ is in cc);
      };
    }

-- a part of what waited and the bytes is appended, and the write fails
put_broken : (a b : Outgoing) (bytes : List ℕ) → a.failed ≡ false → b.failed ≡ true → AppendsPart a.written b.written (a.waiting ++ bytes) → a.faults ≤ b.faults → Rose a.faults b.faults → Puts a b bytes
put_broken a b bytes was is out later rose =
    record {
      more = λ start before text got. record {
        later = omega (arith, got.later);
        whole = λ sound. absurd (let e : true ≡ false = sym is ∙ sound in cc);
        part = λ _. let w = got.whole was in (
          omega (arith, got.later, rose),
          subst (AppendsPart start b.written) (sym (ap (λ t. t ++ bytes) w.2 ∙ append_assoc w.0 a.waiting bytes)) (part_behind start a.written b.written w.0 (a.waiting ++ bytes) w.1 out),
        );
      };
    }

-- a write of what waited and the bytes, which may fail
pub put_or_broken : {T E : Type 0} (a b : Outgoing) (sent bytes : List ℕ) (r : Result T E) → a.failed ≡ false → b.failed ≡ is_err r → b.waiting ≡ [] → sent ≡ a.waiting ++ bytes
    → OnOk r (Appends a.written b.written sent) → OnErr r (AppendsPart a.written b.written sent) → HasCause a.faults b.faults r → Puts a b bytes
put_or_broken a b sent bytes (Ok x) was is none_waits same all part cause = put_out a b bytes was is none_waits (subst (Appends a.written b.written) same all) cause.later
put_or_broken a b sent bytes (Err e) was is none_waits same all part cause = put_broken a b bytes was is (subst (AppendsPart a.written b.written) same part) cause.later cause.failed

-- ---- the end

-- what waited goes out, or a part of it
pub sent_out : {K T E : Type 0} (g : Ghosts K) (a : Outgoing) (new : K) (sent : List ℕ) (r : Result T E) → a.failed ≡ false → sent ≡ a.waiting
    → OnOk r (Appends a.written (g.written new) sent) → OnErr r (AppendsPart a.written (g.written new) sent) → HasCause a.faults (g.faults new) r → Finishes g a new r
sent_out g a new sent (Ok x) sound same all part cause =
    record {
      text = λ start before text got. let w = got.whole sound in record {
        all = subst (Appends start (g.written new)) (sym (w.2 ∙ ap (λ t. w.0 ++ t) (sym same))) (Appends-trans start a.written (g.written new) w.0 sent w.1 all);
        part = tt;
        cause = record { later = omega (arith, got.later, cause.later); failed = tt };
      };
    }
sent_out g a new sent (Err e) sound same all part cause =
    record {
      text = λ start before text got. let w = got.whole sound in record {
        all = tt;
        part = subst (AppendsPart start (g.written new)) (sym (w.2 ∙ ap (λ t. w.0 ++ t) (sym same))) (part_behind start a.written (g.written new) w.0 sent w.1 part);
        cause = record { later = omega (arith, got.later, cause.later); failed = omega (arith, got.later, cause.failed) };
      };
    }

got_nothing : {K : Type 0} (g : Ghosts K) (buffer : SinkBuffer) (sink : K) → IsFresh buffer → Got (g.written sink) (g.faults sink) [] (outgoing g buffer sink)
got_nothing g buffer sink fresh =
    record {
      later = omega arith;
      whole = λ _. ([], Appends-nil (g.written sink), sym (ap (λ n. take n buffer.waiting) fresh.empty));
      part = λ broken. absurd (let e : true ≡ false = sym broken ∙ fresh.sound in cc);
    }

-- all that was put into a buffer from its start on is written
pub finished : {K T E : Type 0} {g : Ghosts K} {buffer : SinkBuffer} {mid : Outgoing} {new : K} {r : Result T E} {text : List ℕ} (old : K)
    → Finishes g mid new r → IsFresh buffer → Puts (outgoing g buffer old) mid text → IsWritten (g.written old) (g.faults old) (g.written new) (g.faults new) r text
finished {g = g} {buffer = buffer} {text = text} old finish fresh puts =
    finish.text (g.written old) (g.faults old) text (puts.more (g.written old) (g.faults old) [] (got_nothing g buffer old fresh))

-- ---- loops

-- of a whole text all but the rest is put
pub record PutsFront (a b : Outgoing) (rest whole : List ℕ) : Type 0 where
  pub front : List ℕ
  pub puts : Puts a b front
  pub is : front ++ rest ≡ whole

pub front_begins : (a : Outgoing) (whole : List ℕ) → PutsFront a a whole whole
front_begins a whole = record { front = []; puts = nothing_put a; is = refl }

pub front_put : {a b : Outgoing} {piece rest whole : List ℕ} → Puts a b piece → piece ++ rest ≡ whole → PutsFront a b rest whole
front_put {piece = piece} puts is = record { front = piece; puts = puts; is = is }

pub front_turns : {a b c : Outgoing} {piece rest left whole : List ℕ} → PutsFront a b rest whole → Puts b c piece → rest ≡ piece ++ left → PutsFront a c left whole
front_turns {piece = piece} {left = left} so_far next turn =
    record { front = so_far.front ++ piece; puts = so_far.puts ▹ next; is = append_assoc so_far.front piece left ∙ ap (λ t. so_far.front ++ t) (sym turn) ∙ so_far.is }

pub front_ends : {a b : Outgoing} {rest whole : List ℕ} → PutsFront a b rest whole → rest ≡ [] → Puts a b whole
front_ends so_far none = put_as so_far.puts (sym (append-nil so_far.front) ∙ ap (λ t. so_far.front ++ t) (sym none) ∙ so_far.is)
