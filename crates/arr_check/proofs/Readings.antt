-- Records that are read one after another, and the answer to them.
use Rattle.std.proofs.Common.{◌≡◌, ℕ, List, [], ◌∷◌, ◌++◌, true, Option, Some, None, refl, sym, ap, ◌∙◌, subst, inl, inr}
use Rattle.std.proofs.lemmas.Bool.{false≢true}
use Rattle.std.specs.Io.KnownBytes.{IsAtEnd, prepend_known}
use Rattle.arr_law.specs.declared.record.Record.{Record}
use Rattle.arr_law.specs.declared.reject.Reject.{Reject}
use Rattle.arr_law.specs.declared.reject.Reject.TheVariants.{Malformed, TooLong, Trailing, Unfinished}
use Rattle.arr_law.specs.Problem.{Problem}
use Rattle.arr_law.specs.Verdict.{Answer, No, Yes, Reading, Ends, Stops, Reads, State, AtHead, AtPlan, AtCost, AtBound, AtTree, Finished, after, answer, answer_unless, if_finished, record_fault}
use Rattle.arr_law.proofs.Lists.{yes_certifies}
use Rattle.arr_cert.specs.declared.item.Item.TheVariants as item
use Rattle.arr_cert.specs.declared.item.Item.{Item}
use Rattle.arr_cert.specs.Back.{ReadAlways}
use Rattle.arr_cert.proofs.Decided.{read_always}
use Rattle.arr_cert.specs.Reading.{IsFirst, IsRead, Marked, Nothing, Beyond, Has, SpellsNone, Told, Unread, lines, marked, told}
use Rattle.arr_check.specs.Judged.{onto, where_told, IsReadAs, Passes, Fails, Left, Leads, YesIsSure, is_open, left_kind}

-- ---- what is told

told_self : (o : Option (List ℕ)) (P : List ℕ → List ℕ → Type 0) → ((x : List ℕ) → P x x) → told o o P
told_self None P h = tt
told_self (Some x) P h = h x

told_then : (a b c : Option (List ℕ)) (P Q R : List ℕ → List ℕ → Type 0) → ((x y z : List ℕ) → P x y → Q y z → R x z) → told a b P → told b c Q → told a c R
told_then None b c P Q R h p q = tt
told_then (Some x) None c P Q R h p q = absurd p
told_then (Some x) (Some y) None P Q R h p q = absurd q
told_then (Some x) (Some y) (Some z) P Q R h p q = h x y z p q

told_at : (a b : Option (List ℕ)) (P : List ℕ → List ℕ → Type 0) (Q R : List ℕ → Type 0) → ((x y : List ℕ) → P x y → Q y → R x) → told a b P → where_told b Q → where_told a R
told_at None b P Q R h p q = tt
told_at (Some x) None P Q R h p q = absurd p
told_at (Some x) (Some y) P Q R h p q = h x y p q

told_first : (a b : Option (List ℕ)) (P : List ℕ → List ℕ → Type 0) (R : List ℕ → Type 0) → ((x y : List ℕ) → P x y → R x) → told a b P → where_told a R
told_first None b P R h p = tt
told_first (Some x) None P R h p = absurd p
told_first (Some x) (Some y) P R h p = h x y p

-- ---- readings

-- what is unread is read as something
pub some_reading : ReadAlways → (u : Unread) → (all : Reading) × IsReadAs u all
some_reading always u = go u.bytes
  where
    go : (o : Option (List ℕ)) → (all : Reading) × where_told o (λ bytes. IsRead (marked u.line u.room (lines bytes)) all)
    go None = (Ends 0, tt)
    go (Some bytes) = always (marked u.line u.room (lines bytes))

onto_end : (front : List (ℕ × Record)) (l : ℕ × Record) (rest : Reading) → onto (front ++ l ∷ []) rest ≡ onto front (Reads l.0 l.1 rest)
onto_end [] l rest = refl
onto_end (x ∷ front) l rest = ap (Reads x.0 x.1) (onto_end front l rest)

-- a first record, and then a rest
behind : (r : Record) (line : ℕ) (old new : Marked) (rest : Reading) → IsFirst (item.Record r) line old new → IsRead new rest → IsRead old (Reads line r rest)
behind r line old new rest first read = subst (λ m. IsRead m (Reads line r rest)) (sym first.2) (inl (r, rest, first.1, read, refl))

-- ---- answers

pub open_goes : (s : State) (all : Reading) (next : Answer) → is_open s ≡ true → if_finished s all next ≡ next
open_goes AtHead all next e = refl
open_goes (AtPlan v) all next e = refl
open_goes (AtCost v places) all next e = refl
open_goes (AtBound v places c) all next e = refl
open_goes (AtTree v places c b facts) all next e = refl
open_goes (Finished places c b) all next e = absurd (false≢true e)

right_goes : (P : Problem) (number : ℕ) (s : State) (line : ℕ) (r : Record) (rest : Reading) → is_open s ≡ true → record_fault P number s r ≡ None → answer P number s (Reads line r rest) ≡ answer P number (after P s r) rest
right_goes P number s line r rest e right =
    open_goes s (Reads line r rest) (answer_unless (record_fault P number s r) line (answer P number (after P s r) rest)) e
    ∙ ap (λ o. answer_unless o line (answer P number (after P s r) rest)) right

wrong_goes : (P : Problem) (number : ℕ) (s : State) (line : ℕ) (r : Record) (rest : Reading) (kind : Reject) → is_open s ≡ true → record_fault P number s r ≡ Some kind → answer P number s (Reads line r rest) ≡ No line kind
wrong_goes P number s line r rest kind e wrong =
    open_goes s (Reads line r rest) (answer_unless (record_fault P number s r) line (answer P number (after P s r) rest)) e
    ∙ ap (λ o. answer_unless o line (answer P number (after P s r) rest)) wrong

finished_goes : (P : Problem) (number : ℕ) (places : List ℕ) (c b : ℕ) (rest : Reading) → answer P number (Finished places c b) rest ≡ Yes places c b rest
finished_goes P number places c b (Ends line) = refl
finished_goes P number places c b (Stops line kind) = refl
finished_goes P number places c b (Reads line r rest) = refl

-- ---- one turn of the loop

pub begins : (P : Problem) (number : ℕ) (u : Unread) (s : State) → Leads P number u u s s
begins P number u s = record {
  front = [];
  goes = λ rest. refl;
  read = told_self u.bytes (λ x y. (rest : Reading) → IsRead (marked u.line u.room (lines y)) rest → IsRead (marked u.line u.room (lines x)) rest) (λ x rest h. h);
}

pub goes_on : (P : Problem) (number : ℕ) (u v w : Unread) (s t : State) (line : ℕ) (r : Record) → Leads P number u v s t → Told v w (IsFirst (item.Record r) line) → is_open t ≡ true
    → record_fault P number t r ≡ None → Leads P number u w s (after P t r)
goes_on P number u v w s t line r lead first going right = record {
  front = lead.front ++ (line, r) ∷ [];
  goes = λ rest. ap (answer P number s) (onto_end lead.front (line, r) rest) ∙ lead.goes (Reads line r rest) ∙ right_goes P number t line r rest going right;
  read = told_then u.bytes v.bytes w.bytes
      (λ x y. (rest : Reading) → IsRead (marked v.line v.room (lines y)) rest → IsRead (marked u.line u.room (lines x)) (onto lead.front rest))
      (λ y z. IsFirst (item.Record r) line (marked v.line v.room (lines y)) (marked w.line w.room (lines z)))
      (λ x z. (rest : Reading) → IsRead (marked w.line w.room (lines z)) rest → IsRead (marked u.line u.room (lines x)) (onto (lead.front ++ (line, r) ∷ []) rest))
      (λ x y z p q rest h. subst (λ all. IsRead (marked u.line u.room (lines x)) all) (sym (onto_end lead.front (line, r) rest))
      (p (Reads line r rest) (behind r line (marked v.line v.room (lines y)) (marked w.line w.room (lines z)) rest q h)))
      lead.read first;
}

-- what is read from a place on is read behind what was read before it
before_it : (P : Problem) (number : ℕ) (u v : Unread) (s t : State) (all : Reading) (lead : Leads P number u v s t) → IsReadAs v all → IsReadAs u (onto lead.front all)
before_it P number u v s t all lead read =
    told_at u.bytes v.bytes (λ x y. (rest : Reading) → IsRead (marked v.line v.room (lines y)) rest → IsRead (marked u.line u.room (lines x)) (onto lead.front rest))
    (λ y. IsRead (marked v.line v.room (lines y)) all) (λ x. IsRead (marked u.line u.room (lines x)) (onto lead.front all)) (λ x y p q. p all q) lead.read read

pub fails_later : (P : Problem) (number : ℕ) (u v : Unread) (s t : State) (line : ℕ) (kind : Reject) → Leads P number u v s t → Fails P number v t line kind → Fails P number u s line kind
fails_later P number u v s t line kind lead fail = record {
  whole = onto lead.front fail.whole;
  answered = lead.goes fail.whole ∙ fail.answered;
  read = before_it P number u v s t fail.whole lead fail.read;
}

pub fails_here : ReadAlways → (P : Problem) (number : ℕ) (v w : Unread) (t : State) (line : ℕ) (r : Record) (kind : Reject) → Told v w (IsFirst (item.Record r) line) → is_open t ≡ true
    → record_fault P number t r ≡ Some kind → Fails P number v t line kind
fails_here always P number v w t line r kind first going wrong =
    let rest = some_reading always w in
    record {
      whole = Reads line r rest.0;
      answered = wrong_goes P number t line r rest.0 kind going wrong;
      read = told_at v.bytes w.bytes (λ y z. IsFirst (item.Record r) line (marked v.line v.room (lines y)) (marked w.line w.room (lines z)))
          (λ z. IsRead (marked w.line w.room (lines z)) rest.0) (λ y. IsRead (marked v.line v.room (lines y)) (Reads line r rest.0))
          (λ y z p q. behind r line (marked v.line v.room (lines y)) (marked w.line w.room (lines z)) rest.0 p q) first rest.1;
    }

pub passes : (P : Problem) (number : ℕ) (u v : Unread) (places : List ℕ) (c b : ℕ) → Leads P number u v AtHead (Finished places c b) → Passes P number u v c b
passes P number u v places c b lead = record {
  front = lead.front;
  places = places;
  answered = λ rest. lead.goes rest ∙ finished_goes P number places c b rest;
  read = lead.read;
}

-- ---- no record

ends_read : (v w : Unread) (line : ℕ) → Told v w (IsFirst item.End line) → IsReadAs v (Ends line)
ends_read v w line first =
    told_first v.bytes w.bytes (λ y z. marked v.line v.room (lines y) ≡ Nothing line) (λ y. IsRead (marked v.line v.room (lines y)) (Ends line))
    (λ y z e. subst (λ m. IsRead m (Ends line)) (sym e) refl) first

long_read : (v w : Unread) (line : ℕ) → Told v w (IsFirst item.TooLong line) → IsReadAs v (Stops line TooLong)
long_read v w line first =
    told_first v.bytes w.bytes (λ y z. marked v.line v.room (lines y) ≡ Beyond line) (λ y. IsRead (marked v.line v.room (lines y)) (Stops line TooLong))
    (λ y z e. subst (λ m. IsRead m (Stops line TooLong)) (sym e) refl) first

bad_read : (v w : Unread) (line : ℕ) → Told v w (IsFirst item.Malformed line) → IsReadAs v (Stops line Malformed)
bad_read v w line first =
    told_first v.bytes w.bytes (λ y z. (text : List ℕ) × (rest : Marked) × SpellsNone text × (marked v.line v.room (lines y) ≡ Has line text rest)) (λ y. IsRead (marked v.line v.room (lines y)) (Stops line Malformed))
    (λ y z e. subst (λ m. IsRead m (Stops line Malformed)) (sym e.3) (inr (e.2, refl))) first

pub fails_at_end : (v w : Unread) (line : ℕ) → Told v w (IsFirst item.End line) → (P : Problem) (number : ℕ) (s : State) → is_open s ≡ true → Fails P number v s line Unfinished
fails_at_end v w line first P number s going = record { whole = Ends line; answered = open_goes s (Ends line) (No line Unfinished) going; read = ends_read v w line first }

pub fails_too_long : (v w : Unread) (line : ℕ) → Told v w (IsFirst item.TooLong line) → (P : Problem) (number : ℕ) (s : State) → is_open s ≡ true → Fails P number v s line TooLong
fails_too_long v w line first P number s going = record { whole = Stops line TooLong; answered = open_goes s (Stops line TooLong) (No line TooLong) going; read = long_read v w line first }

pub fails_malformed : (v w : Unread) (line : ℕ) → Told v w (IsFirst item.Malformed line) → (P : Problem) (number : ℕ) (s : State) → is_open s ≡ true → Fails P number v s line Malformed
fails_malformed v w line first P number s going = record { whole = Stops line Malformed; answered = open_goes s (Stops line Malformed) (No line Malformed) going; read = bad_read v w line first }

-- ---- the end of the proof

pub left_none : (v w : Unread) (line : ℕ) → Told v w (IsFirst item.End line) → Left v None
left_none v w line first = record { whole = Ends line; answered = refl; read = ends_read v w line first }

pub left_long : (v w : Unread) (line : ℕ) → Told v w (IsFirst item.TooLong line) → Left v (Some (line, TooLong))
left_long v w line first = record { whole = Stops line TooLong; answered = refl; read = long_read v w line first }

pub left_bad : (v w : Unread) (line : ℕ) → Told v w (IsFirst item.Malformed line) → Left v (Some (line, Malformed))
left_bad v w line first = record { whole = Stops line Malformed; answered = refl; read = bad_read v w line first }

pub left_more : ReadAlways → (v w : Unread) (line : ℕ) (r : Record) → Told v w (IsFirst (item.Record r) line) → Left v (Some (line, Trailing))
left_more always v w line r first =
    let rest = some_reading always w in
    record {
      whole = Reads line r rest.0;
      answered = refl;
      read = told_at v.bytes w.bytes (λ y z. IsFirst (item.Record r) line (marked v.line v.room (lines y)) (marked w.line w.room (lines z)))
          (λ z. IsRead (marked w.line w.room (lines z)) rest.0) (λ y. IsRead (marked v.line v.room (lines y)) (Reads line r rest.0))
          (λ y z p q. behind r line (marked v.line v.room (lines y)) (marked w.line w.room (lines z)) rest.0 p q) first rest.1;
    }

-- ---- what a yes means

pub yes_is_sure : YesIsSure
yes_is_sure list number old new cost bound formed p =
    (p.places, yes_certifies list number (onto p.front (Ends 0)) (Ends 0) p.places cost bound formed (p.answered (Ends 0)))

pub left_some : (v w : Unread) (line : ℕ) (found : Item) (kind : Reject) → Told v w (IsFirst found line) → Some kind ≡ left_kind found → Left v (Some (line, kind))
left_some v w line (item.Record r) kind first e = let same : Trailing ≡ kind = cc in subst (λ k. Left v (Some (line, k))) same (left_more read_always v w line r first)
left_some v w line item.End kind first e = absurd (cc)
left_some v w line item.Malformed kind first e = let same : Malformed ≡ kind = cc in subst (λ k. Left v (Some (line, k))) same (left_bad v w line first)
left_some v w line item.TooLong kind first e = let same : TooLong ≡ kind = cc in subst (λ k. Left v (Some (line, k))) same (left_long v w line first)

pub left_nothing : (v w : Unread) (line : ℕ) (found : Item) → Told v w (IsFirst found line) → None ≡ left_kind found → Left v None
left_nothing v w line (item.Record r) first e = absurd (cc)
left_nothing v w line item.End first e = left_none v w line first
left_nothing v w line item.Malformed first e = absurd (cc)
left_nothing v w line item.TooLong first e = absurd (cc)

-- an item that is none of a record

pub fails_if_end : (v w : Unread) (line : ℕ) (found : Item) → found ≡ item.End → Told v w (IsFirst found line) → (P : Problem) (number : ℕ) (s : State) → is_open s ≡ true → Fails P number v s line Unfinished
fails_if_end v w line found e first = fails_at_end v w line (subst (λ (f : Item). Told v w (IsFirst f line)) e first)

pub fails_if_malformed : (v w : Unread) (line : ℕ) (found : Item) → found ≡ item.Malformed → Told v w (IsFirst found line) → (P : Problem) (number : ℕ) (s : State) → is_open s ≡ true → Fails P number v s line Malformed
fails_if_malformed v w line found e first = fails_malformed v w line (subst (λ (f : Item). Told v w (IsFirst f line)) e first)

pub fails_if_long : (v w : Unread) (line : ℕ) (found : Item) → found ≡ item.TooLong → Told v w (IsFirst found line) → (P : Problem) (number : ℕ) (s : State) → is_open s ≡ true → Fails P number v s line TooLong
fails_if_long v w line found e first = fails_too_long v w line (subst (λ (f : Item). Told v w (IsFirst f line)) e first)

-- ---- the end of the input

nothing_more : (w xs : List ℕ) → w ++ xs ≡ [] → xs ≡ []
nothing_more [] xs e = e
nothing_more (x ∷ w) xs e = absurd (cc)

source_ends : (w : List ℕ) (left : Option (List ℕ)) → IsAtEnd (prepend_known w left) → IsAtEnd left
source_ends w None e = tt
source_ends w (Some xs) e = nothing_more w xs e

-- an item that has no fault ends the input
pub ends_input : (found : Item) (w : List ℕ) (left : Option (List ℕ)) → None ≡ left_kind found → (found ≡ item.End → IsAtEnd (prepend_known w left)) → IsAtEnd left
ends_input (item.Record r) w left e h = absurd (cc)
ends_input item.End w left e h = source_ends w left (h refl)
ends_input item.Malformed w left e h = absurd (cc)
ends_input item.TooLong w left e h = absurd (cc)
