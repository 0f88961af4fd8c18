use Rattle.std.proofs.Common.{◌≡◌, ◌∙◌, ap, sym, true}
use Rattle.std.specs.Prelude.{IsTrue}
use Rattle.arr_elab.specs.State.{State, stands_for}
use Rattle.arr_elab.specs.Totals.{base_of, is_there, has_place, may_hold_if}
use Rattle.arr_elab.proofs.Moves.{hold_allowed, release_allowed, kept_after, bounded_after, state_after}
use Rattle.arr_elab.proofs.reader.Reader.set_name.Goals as goal

pub hold-requires : goal.hold-requires
hold-requires c =
    let inside = c.self.inside in
    sym (hold_allowed inside.names inside.bases c.args.array c.base_of-new.result c.self.invariant.0 c.self.invariant.1 c.base_of-new.ensures
    (ap (λ (s : State). is_there c.args.array s.bases) c.self.view_is ∙ c.requires.there))

pub release-requires : goal.release-requires
release-requires c =
    let inside = c.self.inside in
    let old : c.base-old.result ≡ base_of (stands_for inside.names c.args.name.now) = c.base-old.ensures ∙ ap (λ (s : State). base_of (stands_for s.names c.args.name.now)) (sym c.self.view_is) in
    let room : true ≡ may_hold_if inside.bases c.base_of-new.result =
    hold_allowed inside.names inside.bases c.args.array c.base_of-new.result c.self.invariant.0 c.self.invariant.1 c.base_of-new.ensures
    (ap (λ (s : State). is_there c.args.array s.bases) c.self.view_is ∙ c.requires.there) in
    release_allowed inside.names inside.bases c.hold.new.self c.args.name.now c.args.array c.base_of-new.result c.base-old.result c.self.invariant.0
    c.base_of-new.ensures old room c.hold.ensures

pub invariant_of-self-2 : goal.invariant_of-self-2
invariant_of-self-2 c =
    let inside = c.self.inside in
    let old : c.base-old.result ≡ base_of (stands_for inside.names c.args.name.now) = c.base-old.ensures ∙ ap (λ (s : State). base_of (stands_for s.names c.args.name.now)) (sym c.self.view_is) in
    let room : true ≡ may_hold_if inside.bases c.base_of-new.result =
    hold_allowed inside.names inside.bases c.args.array c.base_of-new.result c.self.invariant.0 c.self.invariant.1 c.base_of-new.ensures
    (ap (λ (s : State). is_there c.args.array s.bases) c.self.view_is ∙ c.requires.there) in
    let place : IsTrue (has_place c.args.array inside.names c.args.name.now) = ap (λ (s : State). has_place c.args.array s.names c.args.name.now) c.self.view_is ∙ c.requires.few in (
      kept_after inside.names c.set.new.self inside.bases c.hold.new.self c.release.new.self c.args.name.now c.args.array c.base_of-new.result c.base-old.result c.self.invariant.0
          c.base_of-new.ensures old room c.hold.ensures c.release.ensures c.in_ok-set.ensures.named,
      bounded_after inside.names c.set.new.self inside.bases c.hold.new.self c.release.new.self c.args.name.now c.args.array c.base_of-new.result c.base-old.result c.self.invariant.0
          c.base_of-new.ensures old room c.hold.ensures c.release.ensures c.in_ok-set.ensures.named c.self.invariant.1 place,
    )

pub returns : goal.returns
returns c =
    let inside = c.self.inside in
    let old : c.base-old.result ≡ base_of (stands_for inside.names c.args.name.now) = c.base-old.ensures ∙ ap (λ (s : State). base_of (stands_for s.names c.args.name.now)) (sym c.self.view_is) in
    let room : true ≡ may_hold_if inside.bases c.base_of-new.result =
    hold_allowed inside.names inside.bases c.args.array c.base_of-new.result c.self.invariant.0 c.self.invariant.1 c.base_of-new.ensures
    (ap (λ (s : State). is_there c.args.array s.bases) c.self.view_is ∙ c.requires.there) in
    state_after inside.names c.set.new.self inside.bases c.hold.new.self c.release.new.self inside.steps.items c.args.self.now c.args.name.now c.args.array c.base_of-new.result c.base-old.result c.self.view_is c.self.invariant.0
    c.base_of-new.ensures old room c.hold.ensures c.release.ensures c.in_ok-set.ensures.named
