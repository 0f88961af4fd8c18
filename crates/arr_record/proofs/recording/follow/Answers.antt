use Rattle.std.proofs.Common.{◌≡◌, [], ◌∷◌, ◌++◌, length, sym, ap, subst, ◌∙◌}
use Rattle.std.specs.List.{AllByRecursion}
use Rattle.arr_view.specs.Strided.{Strided}
use Rattle.arr_ops.specs.Ops.{outputs}
use Rattle.arr_ops.specs.declared.gather.Gather.{Gather}
use Rattle.arr_ops.specs.declared.gather.Scatter.{Scatter}
use Rattle.arr_elab.specs.declared.step.Step.{Step}
use Rattle.arr_elab.specs.Recording.{after_step}
use Rattle.arr_record.specs.Parts.{append, after, free_each, put}
use Rattle.arr_record.specs.declared.part.Part.TheVariants as part
use Rattle.arr_record.specs.Ledger.{Follows, Owned, Ready, with_types}
use Rattle.arr_record.proofs.Following.{on_ok, both_ok, makes_next_base, follows_act, gather_next, follows_gather, follows_scatter, name_live, follows_done}
use Rattle.arr_record.proofs.recording.follow.Goals as goal

pub make_for-requires : goal.make_for-requires
make_for-requires c =
    λ makes.
    let next : AllByRecursion (λ (o : Strided). o.base ≡ length c.requires.scene.bases) (outputs c.in-Act.op) =
    makes_next_base c.requires.scene c.requires.next c.in-Act.op (ap (after_step c.requires.scene) (sym c.in-Act.is) ∙ c.requires.may) makes in
    subst (λ n. AllByRecursion (λ (o : Strided). o.base ≡ n) (outputs c.in-Act.op)) (sym c.requires.follows.made) next

pub make-requires : goal.make-requires
make-requires c =
    c.base.ensures.value ∙ gather_next c.requires.scene c.requires.next c.in-Gather.gather (ap (after_step c.requires.scene) (sym c.in-Gather.is) ∙ c.requires.may) ∙ sym c.requires.follows.made

pub bind-requires : goal.bind-requires
bind-requires c = (
  record { names = c.requires.state.names; live = c.requires.state.live; owned = c.requires.follows.owned },
  c.requires.live c.in-Name.base (name_live c.requires.scene c.requires.next c.in-Name.name c.in-Name.base (ap (after_step c.requires.scene) (sym c.in-Name.is) ∙ c.requires.may)),
  c.requires.few,
)

pub returns-in_ok-make_for-in-Act : goal.returns-in_ok-make_for-in-Act
returns-in_ok-make_for-in-Act c =
    on_ok c.append.result (c.append.new.self ≡ append c.args.writer.now c.copied.result)
    ((r : Ready c.args.writer.now c.args.owners.now c.args.step.now) → Follows r.next (after r.state c.args.step.now) c.append.new.self c.make_for.new.self)
    (λ written r.
    subst (λ (s : Step). Follows r.next (after r.state s) c.append.new.self c.make_for.new.self) (sym c.in-Act.is)
    (follows_act r.scene r.next r.state c.args.writer.now c.append.new.self c.args.owners.now c.make_for.new.self c.in-Act.op r.follows
    (ap (after_step r.scene) (sym c.in-Act.is) ∙ r.may)
    (written ∙ ap (append c.args.writer.now) c.copied.ensures) c.in_ok-make_for-in-Act.ensures.owned c.in_ok-make_for-in-Act.ensures.made))
    c.append.ensures

pub returns-in_ok-make-in-Gather : goal.returns-in_ok-make-in-Gather
returns-in_ok-make-in-Gather c =
    let base : c.base.result ≡ c.in-Gather.gather.out.base = c.base.ensures.value in
    on_ok c.put.result (c.put.new.self ≡ put c.args.writer.now (part.Gather c.copied-in-Gather.result))
    ((r : Ready c.args.writer.now c.args.owners.now c.args.step.now) → Follows r.next (after r.state c.args.step.now) c.put.new.self c.make.new.self)
    (λ written r.
    subst (λ (s : Step). Follows r.next (after r.state s) c.put.new.self c.make.new.self) (sym c.in-Gather.is)
    (follows_gather r.scene r.next r.state c.args.writer.now c.put.new.self c.args.owners.now c.make.new.self c.in-Gather.gather r.follows
    (ap (after_step r.scene) (sym c.in-Gather.is) ∙ r.may)
    (written ∙ ap (λ (g : Gather). put c.args.writer.now (part.Gather g)) c.copied-in-Gather.ensures)
    (λ names live owned. subst (λ b. Owned c.make.new.self names (live ++ (b, c.in-Gather.gather.to) ∷ [])) base (c.in_ok-make-in-Gather.ensures.owned names live owned))
    c.in_ok-make-in-Gather.ensures.made))
    c.put.ensures

pub returns-in-Scatter : goal.returns-in-Scatter
returns-in-Scatter c =
    on_ok c.put-in-Scatter.result (c.put-in-Scatter.new.self ≡ put c.args.writer.now (part.Scatter c.copied-in-Scatter.result))
    ((r : Ready c.args.writer.now c.args.owners.now c.args.step.now) → Follows r.next (after r.state c.args.step.now) c.put-in-Scatter.new.self c.args.owners.now)
    (λ written r.
    subst (λ (s : Step). Follows r.next (after r.state s) c.put-in-Scatter.new.self c.args.owners.now) (sym c.in-Scatter.is)
    (follows_scatter r.scene r.next r.state c.args.writer.now c.put-in-Scatter.new.self c.args.owners.now c.in-Scatter.scatter r.follows
    (ap (after_step r.scene) (sym c.in-Scatter.is) ∙ r.may)
    (written ∙ ap (λ (g : Scatter). put c.args.writer.now (part.Scatter g)) c.copied-in-Scatter.ensures)))
    c.put-in-Scatter.ensures

pub returns-in-Done : goal.returns-in-Done
returns-in-Done c =
    on_ok c.free_loose.result ((c.free_loose.new.writer ≡ free_each c.args.writer.now (with_types c.args.owners.now.elems c.args.owners.now.loose)) × (c.free_loose.new.self ≡ record c.args.owners.now { loose = [] }))
    ((r : Ready c.args.writer.now c.args.owners.now c.args.step.now) → Follows r.next (after r.state c.args.step.now) c.free_loose.new.writer c.free_loose.new.self)
    (λ both r.
    subst (λ (s : Step). Follows r.next (after r.state s) c.free_loose.new.writer c.free_loose.new.self) (sym c.in-Done.is)
    (follows_done r.scene r.next r.state c.args.writer.now c.free_loose.new.writer c.args.owners.now c.free_loose.new.self r.follows
    (ap (after_step r.scene) (sym c.in-Done.is) ∙ r.may) both.0 both.1))
    (both_ok c.free_loose.result _ _ c.free_loose.ensures.freed c.free_loose.ensures.left)
