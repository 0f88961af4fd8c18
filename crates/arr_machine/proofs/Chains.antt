-- Additions that follow one another, in one loop: registers between them are not needed any longer.
use Rattle.std.proofs.Common.{◌≡◌, ℕ, ◌+◌, ◌<◌, ℤ, List, Bool, true, false, cond, Option, Some, None, length, get_or, refl, ap, ap₂, sym, subst, ◌∙◌, arith}
use Rattle.std.specs.Prelude.{◌==◌, slice_get}
use Rattle.std.proofs.lemmas.Bool.{eq-eqb, ne_eqb, true≢false}
use Rattle.arr_num.specs.declared.elem.Elem.{Elem}
use Rattle.arr_view.specs.Strided.{Strided}
use Rattle.arr_view.specs.Views.{identical}
use Rattle.arr_ops.specs.declared.op.Op.{Op}
use Rattle.arr_ops.specs.Memory.{Slot}
use Rattle.arr_store.specs.declared.buffer.Buffer.{Buffer}
use Rattle.arr_vector.specs.Sorts.{plus}
use Rattle.arr_strips.specs.Columns.{Columns}
use Rattle.arr_strips.specs.Registers.{line_value, number_in, register_views}
use Rattle.arr_strips.specs.Strips.{loaded}
use Rattle.arr_strips.proofs.Registers.{one_number}
use Rattle.arr_lanes.specs.declared.sum.Sum.{Sum}
use Rattle.arr_lanes.specs.Lanes.{IsLane, shown}
use Rattle.arr_lanes.specs.Sums.{SumFits, MoreFit, sum_value, with_more}
use Rattle.arr_machine.specs.declared.chain.Addition.{Addition}
use Rattle.arr_machine.specs.declared.task.Task.{Task}
use Rattle.arr_machine.specs.declared.task.Task.TheVariants.{Line as line_task, Link}
use Rattle.arr_machine.specs.Chains.{AddsAt, EndsSum, Follows, Follow, SumOf, addition_line, addition_task, additions}
use Rattle.arr_machine.specs.Needed.{needed}
use Rattle.arr_machine.specs.Standing.{Advances, IsStripOf, Standing}
use Rattle.arr_machine.specs.Tasks.{AreTasks, IsLine, IsTask, PassesOn, TypedLanes}
use Rattle.arr_machine.proofs.Blocks.{item_at}
use Rattle.arr_machine.proofs.Lent.{Written}
use Rattle.arr_machine.proofs.Lines.{dest_below, dest_written, line_fits, line_held}
use Rattle.arr_machine.proofs.Needs.{needed_same}
use Rattle.arr_machine.proofs.Operands.{Behind}
use Rattle.arr_machine.proofs.Steps.{output_on}

-- the operation of a block that an addition is
record Adding (ops : List Op) (room : ℕ) (lanes : List Buffer) (k : ℕ) (a : Addition) : Type 0 where
  pub op : Op
  pub there : k < length ops
  pub item : op ≡ get_or ops k op
  pub line : IsLine ops room lanes op (addition_line a)
  pub passes : a.is_link ≡ true → PassesOn ops k op

-- one register holds something else
abbrev pub beside : (ℕ → ℕ → ℤ) → ℕ → (ℕ → ℤ) → ℕ → ℕ → ℤ
beside held d sums r i = cond (d == r) (sums i) (held r i)

-- what holds of needed registers is all that is asked of them
same_held : (ops : List Op) (p c k : ℕ) (h : Columns) (start : ℕ → Option Slot) (held now : ℕ → ℕ → ℤ) (xs : List ℤ) (slots : ℕ → Option Slot)
    → ((v : Strided) → needed ops k v ≡ true → (i : ℕ) → i < c → now (number_in (register_views ops) v) i ≡ held (number_in (register_views ops) v) i)
    → Standing ops p c k h start held xs slots → Standing ops p c k h start now xs slots
same_held ops p c k h start held now xs slots same s = record { row = λ v on i u. same v on i u ∙ s.row v on i u; kept = s.kept; shown = s.shown }

module _ (ops : List Op) (p c room : ℕ) (t : IsStripOf ops p c room) (tasks : List Task) (lanes : List Buffer) (are : AreTasks ops room lanes tasks) (typed : TypedLanes ops room lanes) (see : ℕ → ℕ → ℤ) (behind : Behind ops lanes see) where
  adding : (k : ℕ) (a : Addition) → AddsAt tasks k a → Adding ops room lanes k a
  adding k a at =
      let there : k < length tasks = at.there in
      let below : k < length ops = subst (λ n. k < n) are.long there in
      let op = item_at ops k below in
      let is : IsTask ops room lanes k op.0 (addition_task a) = are.each k op.0 (addition_task a) below op.1 at.task in
      record { op = op.0; there = below; item = op.1; line = (parts a.is_link op.0 k is).0; passes = λ link. (parts a.is_link op.0 k is).1 link }
    where
      parts : (link : Bool) (op : Op) (k : ℕ) → IsTask ops room lanes k op (cond link (Link (addition_line a)) (line_task (addition_line a))) → IsLine ops room lanes op (addition_line a) × (link ≡ true → PassesOn ops k op)
      parts true op k h = (h.0, λ e. h.1)
      parts false op k h = (h, λ e. absurd (true≢false (sym e)))

  -- the lanes of an addition
  module _ (k : ℕ) (a : Addition) (at : AddsAt tasks k a) where
    one : Adding ops room lanes k a
    one = adding k a at

    lanes_fit : Rattle.arr_lanes.specs.Lanes.LineFits room lanes (addition_line a)
    lanes_fit = line_fits ops p c room t k one.op one.there one.item (addition_line a) lanes one.line typed

    pub first_fits : IsLane a.to room (slice_get lanes a.first)
    first_fits = lanes_fit.0.1.0

    pub second_fits : IsLane a.to room (slice_get lanes a.second)
    second_fits = lanes_fit.0.1.1

    pub dest_fits : IsLane a.to room (slice_get lanes a.dest)
    dest_fits = lanes_fit.1

    pub low : a.dest < length (register_views ops)
    low = dest_below ops p c room t k one.op one.there one.item (addition_line a) lanes one.line typed

    behind_it : (sums : ℕ → ℤ) → Behind ops lanes (beside see a.dest sums)
    behind_it sums r far i = ap (λ z. cond z (sums i) (see r i)) (ne_eqb a.dest r (λ e. let z : a.dest < length (register_views ops) = low in absurd (omega arith))) ∙ behind r far i

    pub written : Written ops a.dest
    written = dest_written ops p c room t k one.op one.there one.item (addition_line a) lanes one.line typed

  module _ (xs : List ℤ) (slots : ℕ → Option Slot) (h : Columns) (start : ℕ → Option Slot) where
    -- the first addition
    begins : (k : ℕ) (a : Addition) → AddsAt tasks k a → Standing ops p c k h start see xs slots
        → Standing ops p c (k + 1) h start (beside see a.dest (λ i. plus a.to (see a.first i) (see a.second i))) xs slots
    begins k a at s =
        let o = adding k a at in
        line_held ops p c room t k o.op o.there o.item (addition_line a) lanes o.line typed see (beside see a.dest (λ i. plus a.to (see a.first i) (see a.second i))) behind (λ r i u. refl) xs slots h start s

    -- one more
    goes_on : (k : ℕ) (before a : Addition) (sums : ℕ → ℤ) → AddsAt tasks k before → Follows tasks (k + 1) before a → Standing ops p c (k + 1) h start (beside see before.dest sums) xs slots
        → Standing ops p c (k + 1 + 1) h start (beside see a.dest (λ i. plus a.to (sums i) (see a.second i))) xs slots
    goes_on k before a sums was f s =
        same_held ops p c (k + 1 + 1) h start now (beside see a.dest (λ i. plus a.to (sums i) (see a.second i))) xs slots same
        (line_held ops p c room t (k + 1) o.op o.there o.item (addition_line a) lanes o.line typed held now (behind_it k before was sums) (λ r i u. refl) xs slots h start s)
      where
        o : Adding ops room lanes (k + 1) a
        o = adding (k + 1) a f.here

        held : ℕ → ℕ → ℤ
        held = beside see before.dest sums

        now : ℕ → ℕ → ℤ
        now r i = cond (a.dest == r) (line_value (p + i) (λ q. held q i) (shown (addition_line a))) (held r i)

        value_is : (i : ℕ) → plus a.to (sums i) (see a.second i) ≡ line_value (p + i) (λ q. held q i) (shown (addition_line a))
        value_is i =
            ap₂ (plus a.to) (sym (ap (λ z. cond z (sums i) (see a.first i)) (eq-eqb before.dest a.first (sym f.first)))) (sym (ap (λ z. cond z (sums i) (see a.second i)) (ne_eqb before.dest a.second (λ e. f.other (sym e)))))

        b : Adding ops room lanes k before
        b = adding k before was

        out : Strided
        out = b.line.1.1.1.0

        gone : (v : Strided) → needed ops (k + 1 + 1) v ≡ true → (before.dest == number_in (register_views ops) v) ≡ false
        gone v on = ap (λ r. r == number_in (register_views ops) v) b.line.1.1.1.1.1 ∙ one_number (register_views ops) out v on_out ∙ not_same (identical out v) refl
          where
            on_out : loaded (register_views ops) out ≡ true
            on_out = output_on ops p c room t k b.op b.there b.item out b.line.1.1.1.1.0

            free : needed ops (k + 1 + 1) out ≡ false
            free = subst (λ n. needed ops n out ≡ false) (let z : k + 2 ≡ k + 1 + 1 = omega arith in z) (b.passes f.link out b.line.1.1.1.1.0)

            not_same : (z : Bool) → identical out v ≡ z → z ≡ false
            not_same true e = absurd (true≢false (sym (needed_same ops (k + 1 + 1) out v e on) ∙ free))
            not_same false e = refl

        same : (v : Strided) → needed ops (k + 1 + 1) v ≡ true → (i : ℕ) → i < c
            → beside see a.dest (λ i. plus a.to (sums i) (see a.second i)) (number_in (register_views ops) v) i ≡ now (number_in (register_views ops) v) i
        same v on i u =
            ap₂ (λ x y. cond (a.dest == number_in (register_views ops) v) x y) (value_is i)
            (sym (ap (λ z. cond z (sums i) (see (number_in (register_views ops) v) i)) (gone v on)))

  -- a lane has one type
  to_same : (k : ℕ) (before a : Addition) → AddsAt tasks k before → Follows tasks (k + 1) before a → a.to ≡ before.to
  to_same k before a was f =
      one_type a.to before.to (slice_get lanes before.dest) (subst (λ r. IsLane a.to room (slice_get lanes r)) f.first (first_fits (k + 1) a f.here)) (dest_fits k before was)
    where
      one_type : (t u : Elem) (o : Option Buffer) → IsLane t room o → IsLane u room o → t ≡ u
      one_type t u None a b = absurd a
      one_type t u (Some l) a b = sym a.0 ∙ b.0

  module _ (k : ℕ) (s : Sum) (start last : Addition) (is : SumOf tasks k s start last) where
    after : AddsAt tasks (k + 1) last
    after = is.follows.here

    last_to : last.to ≡ s.to
    last_to = to_same k start last is.starts is.follows ∙ sym is.to

    -- the two additions that follow, if the sum takes them
    module _ (more : ℕ × ℕ) (two : Addition × Addition) (f : Follow tasks (k + 2) last two) where
      third : Follows tasks (k + 1 + 1) last two.0
      third = subst (λ n. Follows tasks n last two.0) (let z : k + 2 ≡ k + 1 + 1 = omega arith in z) f.0

      fourth : Follows tasks (k + 1 + 1 + 1) two.0 two.1
      fourth = subst (λ n. Follows tasks n two.0 two.1) (let z : k + 2 + 1 ≡ k + 1 + 1 + 1 = omega arith in z) f.1

      third_to : two.0.to ≡ s.to
      third_to = to_same (k + 1) last two.0 after third ∙ last_to

      fourth_to : two.1.to ≡ s.to
      fourth_to = to_same (k + 1 + 1) two.0 two.1 third.here fourth ∙ third_to

    -- its lanes are there, and of its type
    pub sum_fits : SumFits room lanes s
    sum_fits =
        record {
          first = subst (λ y. IsLane y room (slice_get lanes s.first)) (sym is.to) (subst (λ r. IsLane start.to room (slice_get lanes r)) (sym is.first) (first_fits k start is.starts));
          second = subst (λ y. IsLane y room (slice_get lanes s.second)) (sym is.to) (subst (λ r. IsLane start.to room (slice_get lanes r)) (sym is.second) (second_fits k start is.starts));
          third = lane s.third last.second last.to is.third last_to (second_fits (k + 1) last after);
          more = (ends s.more is.ends).0;
          dest = (ends s.more is.ends).1;
        }
      where
        lane : (r q : ℕ) (u : Elem) → r ≡ q → u ≡ s.to → IsLane u room (slice_get lanes q) → IsLane s.to room (slice_get lanes r)
        lane r q u e f h = subst (λ y. IsLane y room (slice_get lanes r)) f (subst (λ r. IsLane u room (slice_get lanes r)) (sym e) h)

        ends : (m : Option (ℕ × ℕ)) → EndsSum tasks (k + 2) last s.dest m → MoreFit room lanes s.to m × IsLane s.to room (slice_get lanes s.dest)
        ends None e = (tt, lane s.dest last.dest last.to e last_to (dest_fits (k + 1) last after))
        ends (Some more) e =
            let two = e.0 in
            let f : Follow tasks (k + 2) last two = e.1.0 in (
              (
                lane more.0 two.0.second two.0.to e.1.1.1.0 (third_to more two f) (second_fits (k + 1 + 1) two.0 (third more two f).here),
                lane more.1 two.1.second two.1.to e.1.1.1.1 (fourth_to more two f) (second_fits (k + 1 + 1 + 1) two.1 (fourth more two f).here),
              ),
              lane s.dest two.1.dest two.1.to e.1.1.0 (fourth_to more two f) (dest_fits (k + 1 + 1 + 1) two.1 (fourth more two f).here),
            )

    pub sum_written : Written ops s.dest
    sum_written = at s.more is.ends
      where
        at : (m : Option (ℕ × ℕ)) → EndsSum tasks (k + 2) last s.dest m → Written ops s.dest
        at None e = subst (Written ops) (sym e) (written (k + 1) last after)
        at (Some more) e = subst (Written ops) (sym e.1.1.0) (written (k + 1 + 1 + 1) e.0.1 (fourth more e.0 e.1.0).here)

    pub sum_low : s.dest < length (register_views ops)
    sum_low = at s.more is.ends
      where
        at : (m : Option (ℕ × ℕ)) → EndsSum tasks (k + 2) last s.dest m → s.dest < length (register_views ops)
        at None e = subst (λ r. r < length (register_views ops)) (sym e) (low (k + 1) last after)
        at (Some more) e = subst (λ r. r < length (register_views ops)) (sym e.1.1.0) (low (k + 1 + 1 + 1) e.0.1 (fourth more e.0 e.1.0).here)

    -- all its additions at once
    module _ (now : ℕ → ℕ → ℤ) (becomes : (r i : ℕ) → i < c → now r i ≡ cond (s.dest == r) (sum_value see s i) (see r i)) (xs : List ℤ) (slots : ℕ → Option Slot) where
      pub sum_stands : Advances ops p c k (k + additions s) see xs slots now xs slots
      sum_stands h begun st = at s.more refl is.ends
        where
          two_sum : ℕ → ℤ
          two_sum i = plus start.to (see start.first i) (see start.second i)

          three : ℕ → ℤ
          three i = plus last.to (two_sum i) (see last.second i)

          so_far : Standing ops p c (k + 1 + 1) h begun (beside see last.dest three) xs slots
          so_far = goes_on xs slots h begun k start last two_sum is.starts is.follows (begins xs slots h begun k start is.starts st)

          three_is : (i : ℕ) → plus s.to (plus s.to (see s.first i) (see s.second i)) (see s.third i) ≡ three i
          three_is i = ap (plus s.to (plus s.to (see s.first i) (see s.second i))) (ap (λ r. see r i) is.third)
              ∙ ap (λ y. plus y (plus s.to (see s.first i) (see s.second i)) (see last.second i)) (sym last_to)
              ∙ ap (λ x. plus last.to x (see last.second i))
              (ap₂ (λ q r. plus s.to (see q i) (see r i)) is.first is.second ∙ ap (λ y. plus y (see start.first i) (see start.second i)) is.to)

          -- the new lanes are those, at each place
          ends_as : (n d : ℕ) (sums : ℕ → ℤ) → n ≡ k + additions s → s.dest ≡ d → ((i : ℕ) → sum_value see s i ≡ sums i) → Standing ops p c n h begun (beside see d sums) xs slots
              → Standing ops p c (k + additions s) h begun now xs slots
          ends_as n d sums e there is_sum s' =
              same_held ops p c (k + additions s) h begun (beside see d sums) now xs slots
              (λ v on i u. becomes (number_in (register_views ops) v) i u
              ∙ ap₂ (λ q z. cond (q == number_in (register_views ops) v) z (see (number_in (register_views ops) v) i)) there (is_sum i))
              (subst (λ m. Standing ops p c m h begun (beside see d sums) xs slots) e s')

          at : (m : Option (ℕ × ℕ)) → s.more ≡ m → EndsSum tasks (k + 2) last s.dest m → Standing ops p c (k + additions s) h begun now xs slots
          at None none e =
              ends_as (k + 1 + 1) last.dest three (let z : k + 1 + 1 ≡ k + 2 = omega arith in z ∙ ap (λ (m : Option (ℕ × ℕ)). k + cond (Rattle.std.specs.Prelude.is_some m) 4 2) (sym none)) e
              (λ i. ap (λ (m : Option (ℕ × ℕ)). with_more see s.to m i (plus s.to (plus s.to (see s.first i) (see s.second i)) (see s.third i))) none ∙ three_is i) so_far
          at (Some more) some e =
              ends_as (k + 1 + 1 + 1 + 1) e.0.1.dest five (let z : k + 1 + 1 + 1 + 1 ≡ k + 4 = omega arith in z ∙ ap (λ (m : Option (ℕ × ℕ)). k + cond (Rattle.std.specs.Prelude.is_some m) 4 2) (sym some)) e.1.1.0
              (λ i. ap (λ (m : Option (ℕ × ℕ)). with_more see s.to m i (plus s.to (plus s.to (see s.first i) (see s.second i)) (see s.third i))) some ∙ five_is i)
              (goes_on xs slots h begun (k + 1 + 1) e.0.0 e.0.1 four (third more e.0 e.1.0).here (fourth more e.0 e.1.0) (goes_on xs slots h begun (k + 1) last e.0.0 three after (third more e.0 e.1.0) so_far))
            where
              four : ℕ → ℤ
              four i = plus e.0.0.to (three i) (see e.0.0.second i)

              five : ℕ → ℤ
              five i = plus e.0.1.to (four i) (see e.0.1.second i)

              five_is : (i : ℕ) → plus s.to (plus s.to (plus s.to (plus s.to (see s.first i) (see s.second i)) (see s.third i)) (see more.0 i)) (see more.1 i) ≡ five i
              five_is i =
                  ap (λ x. plus s.to (plus s.to x (see more.0 i)) (see more.1 i)) (three_is i)
                  ∙ ap₂ (λ q r. plus s.to (plus s.to (three i) (see q i)) (see r i)) e.1.1.1.0 e.1.1.1.1
                  ∙ ap₂ (λ y z. plus z (plus y (three i) (see e.0.0.second i)) (see e.0.1.second i)) (sym (third_to more e.0 e.1.0)) (sym (fourth_to more e.0 e.1.0))
