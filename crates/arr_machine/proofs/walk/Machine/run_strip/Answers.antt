use Rattle.std.proofs.Common.{◌≡◌, List, length, ap, sym, subst, ◌∙◌}
use Rattle.std.specs.FinMap as finite
use Rattle.arr_store.specs.Slots.{slots_of}
use Rattle.arr_store.specs.Stored.{cells}
use Rattle.arr_strips.specs.Blocks.{stores}
use Rattle.arr_strips.specs.Strips.{Bases, outline, stored}
use Rattle.arr_lanes.specs.Lanes.{held, number}
use Rattle.arr_lanes.specs.Spares.{HasRoom}
use Rattle.arr_machine.specs.Ports.{lane_columns}
use Rattle.arr_machine.specs.Standing.{GoesOn, ReadyAt}
use Rattle.arr_machine.specs.Tasks.{AreTasks, Steady, TypedLanes}
use Rattle.arr_machine.proofs.Lent.{stored_own}
use Rattle.arr_machine.proofs.Lines.{written_back}
use Rattle.arr_machine.proofs.Saves.{outline_stored}
use Rattle.arr_machine.proofs.Steadies.{steady_more, tasks_steady, typed_steady}
use Rattle.arr_machine.proofs.Walking.{strip_walks}
use Rattle.arr_machine.proofs.walk.Machine.run_strip.Goals as goal

-- there are as many places as before
long_places : {X Y : Type 0} (lanes old items : List X) (places were kept : List Y) → length places ≡ length lanes → length lanes ≡ length old → old ≡ items → were ≡ kept → length kept ≡ length items → length places ≡ length were
long_places lanes old items places were kept e f g h k = e ∙ f ∙ ap length g ∙ sym k ∙ sym (ap length h)

pub run_tasks-requires-clause-tasks : goal.run_tasks-requires-clause-tasks
run_tasks-requires-clause-tasks c =
    let back : c.as_mut_slice-3.result.now ≡ c.load_ports.new.lanes =
    c.as_mut_slice-3.ensures.value ∙ written_back c.args.self.now.lanes.len c.load_ports.new.lanes c.args.self.now.lanes.items c.as_mut_slice.result.now c.as_mut_slice.ensures.value c.as_mut_slice.ensures.len c.load_ports.ensures.steady.long in
    let steady : Steady c.args.ops.now c.args.strip.room c.args.self.now.lanes.items c.load_ports.new.lanes = subst (λ ls. Steady c.args.ops.now c.args.strip.room ls c.load_ports.new.lanes) c.as_mut_slice.ensures.value c.load_ports.ensures.steady in
    let tasks : AreTasks c.args.ops.now c.args.strip.room c.args.self.now.lanes.items c.args.self.now.tasks.items = subst (λ n. AreTasks c.args.ops.now n c.args.self.now.lanes.items c.args.self.now.tasks.items) (sym c.requires.room) c.requires.machine.tasks in
    subst (λ ts. AreTasks c.args.ops.now c.args.strip.room c.as_mut_slice-3.result.now ts) (sym c.as_slice-2.ensures.value)
    (subst (λ ls. AreTasks c.args.ops.now c.args.strip.room ls c.args.self.now.tasks.items) (sym back) (tasks_steady c.args.ops.now c.args.strip.room c.args.self.now.lanes.items c.load_ports.new.lanes steady c.args.self.now.tasks.items tasks))

pub run_tasks-requires-clause-ready : goal.run_tasks-requires-clause-ready
run_tasks-requires-clause-ready c =
    let back : c.as_mut_slice-3.result.now ≡ c.load_ports.new.lanes =
    c.as_mut_slice-3.ensures.value ∙ written_back c.args.self.now.lanes.len c.load_ports.new.lanes c.args.self.now.lanes.items c.as_mut_slice.result.now c.as_mut_slice.ensures.value c.as_mut_slice.ensures.len c.load_ports.ensures.steady.long in
    let steady : Steady c.args.ops.now c.args.strip.room c.args.self.now.lanes.items c.load_ports.new.lanes = subst (λ ls. Steady c.args.ops.now c.args.strip.room ls c.load_ports.new.lanes) c.as_mut_slice.ensures.value c.load_ports.ensures.steady in
    let placed : c.as_slice-3.result.now ≡ c.load_ports.new.places =
    c.as_slice-3.ensures.value
    ∙ written_back c.args.self.now.places.len c.load_ports.new.places c.args.self.now.places.items c.as_mut_slice-2.result.now c.as_mut_slice-2.ensures.value c.as_mut_slice-2.ensures.len
    (long_places c.load_ports.new.lanes c.as_mut_slice.result.now c.args.self.now.lanes.items c.load_ports.new.places c.as_mut_slice-2.result.now c.args.self.now.places.items c.load_ports.ensures.places.long c.load_ports.ensures.steady.long c.as_mut_slice.ensures.value c.as_mut_slice-2.ensures.value c.requires.machine.places) in
    let typed : TypedLanes c.args.ops.now c.args.strip.room c.args.self.now.lanes.items = subst (λ n. TypedLanes c.args.ops.now n c.args.self.now.lanes.items) (sym c.requires.room) c.requires.machine.typed in
    let same : cells c.load_ports.new.store ≡ cells c.args.store.now = ap finite.get c.load_ports.ensures.bases in
    subst (λ f. ReadyAt c.args.ops.now c.args.strip c.as_mut_slice-3.result.now c.as_slice-3.result.now f c.args.numbers.now) (sym same)
    (subst (λ ps. ReadyAt c.args.ops.now c.args.strip c.as_mut_slice-3.result.now ps (cells c.args.store.now) c.args.numbers.now) (sym placed)
    (subst (λ ls. ReadyAt c.args.ops.now c.args.strip ls c.load_ports.new.places (cells c.args.store.now) c.args.numbers.now) (sym back)
    (record {
      typed = typed_steady c.args.ops.now c.args.strip.room c.args.self.now.lanes.items c.load_ports.new.lanes steady typed;
      placed = c.load_ports.ensures.places;
      own = c.load_ports.ensures.own;
      within = c.requires.within;
      wide = c.requires.wide;
      long = c.requires.long;
      kept = c.requires.kept;
    })))

pub returns-clause-walks : goal.returns-clause-walks
returns-clause-walks c m start fit w =
    let back : c.as_mut_slice-3.result.now ≡ c.load_ports.new.lanes =
    c.as_mut_slice-3.ensures.value ∙ written_back c.args.self.now.lanes.len c.load_ports.new.lanes c.args.self.now.lanes.items c.as_mut_slice.result.now c.as_mut_slice.ensures.value c.as_mut_slice.ensures.len c.load_ports.ensures.steady.long in
    let steady : Steady c.args.ops.now c.args.strip.room c.args.self.now.lanes.items c.load_ports.new.lanes = subst (λ ls. Steady c.args.ops.now c.args.strip.room ls c.load_ports.new.lanes) c.as_mut_slice.ensures.value c.load_ports.ensures.steady in
    let placed : c.as_slice-3.result.now ≡ c.load_ports.new.places =
    c.as_slice-3.ensures.value
    ∙ written_back c.args.self.now.places.len c.load_ports.new.places c.args.self.now.places.items c.as_mut_slice-2.result.now c.as_mut_slice-2.ensures.value c.as_mut_slice-2.ensures.len
    (long_places c.load_ports.new.lanes c.as_mut_slice.result.now c.args.self.now.lanes.items c.load_ports.new.places c.as_mut_slice-2.result.now c.args.self.now.places.items c.load_ports.ensures.places.long c.load_ports.ensures.steady.long c.as_mut_slice.ensures.value c.as_mut_slice-2.ensures.value c.requires.machine.places) in
    let same : cells c.load_ports.new.store ≡ cells c.args.store.now = ap finite.get c.load_ports.ensures.bases in
    let back_2 = written_back c.args.self.now.lanes.len c.run_tasks.new.lanes _ c.as_mut_slice-3.result.now c.as_mut_slice-3.ensures.value c.as_mut_slice-3.ensures.len c.run_tasks.ensures.steady.long in
    let steady_2 : Steady c.args.ops.now c.args.strip.room c.load_ports.new.lanes c.run_tasks.new.lanes = subst (λ ls. Steady c.args.ops.now c.args.strip.room ls c.run_tasks.new.lanes) back c.run_tasks.ensures.steady in
    let goes : GoesOn c.args.ops.now c.args.strip c.load_ports.new.places (cells c.args.store.now) 0 (length c.args.ops.now) c.load_ports.new.lanes c.args.numbers.now c.args.slots.now c.run_tasks.new.lanes c.run_tasks.new.numbers c.run_tasks.new.slots =
    subst (λ f. GoesOn c.args.ops.now c.args.strip c.load_ports.new.places f 0 (length c.args.ops.now) c.load_ports.new.lanes c.args.numbers.now c.args.slots.now c.run_tasks.new.lanes c.run_tasks.new.numbers c.run_tasks.new.slots) same
    (subst (λ ps. GoesOn c.args.ops.now c.args.strip ps (cells c.load_ports.new.store) 0 (length c.args.ops.now) c.load_ports.new.lanes c.args.numbers.now c.args.slots.now c.run_tasks.new.lanes c.run_tasks.new.numbers c.run_tasks.new.slots) placed
    (subst (λ ls. GoesOn c.args.ops.now c.args.strip c.as_slice-3.result.now (cells c.load_ports.new.store) 0 (length c.args.ops.now) ls c.args.numbers.now c.args.slots.now c.run_tasks.new.lanes c.run_tasks.new.numbers c.run_tasks.new.slots) back c.run_tasks.ensures.stands)) in
    strip_walks c.args.ops.now m start c.args.strip.position c.args.strip.count c.args.strip.room c.requires.strip fit
    (cells c.args.store.now) (held c.load_ports.new.lanes c.load_ports.new.places (cells c.args.store.now)) (held c.run_tasks.new.lanes c.load_ports.new.places (cells c.args.store.now))
    c.args.numbers.now c.run_tasks.new.numbers (slots_of c.args.slots.now) (slots_of c.run_tasks.new.slots)
    c.load_ports.ensures.loaded goes
    (cells c.store_ports.new.store)
    (c.store_ports.ensures.bases
    ∙ ap (λ ls. stored c.args.strip.position c.args.strip.count (lane_columns c.args.ops.now (number ls) c.args.strip.position) (stores c.args.ops.now) (cells c.load_ports.new.store)) (c.as_slice-5.ensures.value ∙ back_2)
    ∙ ap (λ f. stored c.args.strip.position c.args.strip.count (lane_columns c.args.ops.now (number c.run_tasks.new.lanes) c.args.strip.position) (stores c.args.ops.now) f) same
    ∙ stored_own c.args.ops.now c.load_ports.new.places c.load_ports.ensures.own c.run_tasks.new.lanes (cells c.args.store.now) c.args.strip.position c.args.strip.count (cells c.args.store.now))
    w

pub returns-clause-machine : goal.returns-clause-machine
returns-clause-machine c =
    let back : c.as_mut_slice-3.result.now ≡ c.load_ports.new.lanes =
    c.as_mut_slice-3.ensures.value ∙ written_back c.args.self.now.lanes.len c.load_ports.new.lanes c.args.self.now.lanes.items c.as_mut_slice.result.now c.as_mut_slice.ensures.value c.as_mut_slice.ensures.len c.load_ports.ensures.steady.long in
    let steady : Steady c.args.ops.now c.args.strip.room c.args.self.now.lanes.items c.load_ports.new.lanes = subst (λ ls. Steady c.args.ops.now c.args.strip.room ls c.load_ports.new.lanes) c.as_mut_slice.ensures.value c.load_ports.ensures.steady in
    let placed : c.as_slice-3.result.now ≡ c.load_ports.new.places =
    c.as_slice-3.ensures.value
    ∙ written_back c.args.self.now.places.len c.load_ports.new.places c.args.self.now.places.items c.as_mut_slice-2.result.now c.as_mut_slice-2.ensures.value c.as_mut_slice-2.ensures.len
    (long_places c.load_ports.new.lanes c.as_mut_slice.result.now c.args.self.now.lanes.items c.load_ports.new.places c.as_mut_slice-2.result.now c.args.self.now.places.items c.load_ports.ensures.places.long c.load_ports.ensures.steady.long c.as_mut_slice.ensures.value c.as_mut_slice-2.ensures.value c.requires.machine.places) in
    let tasks : AreTasks c.args.ops.now c.args.strip.room c.args.self.now.lanes.items c.args.self.now.tasks.items = subst (λ n. AreTasks c.args.ops.now n c.args.self.now.lanes.items c.args.self.now.tasks.items) (sym c.requires.room) c.requires.machine.tasks in
    let typed : TypedLanes c.args.ops.now c.args.strip.room c.args.self.now.lanes.items = subst (λ n. TypedLanes c.args.ops.now n c.args.self.now.lanes.items) (sym c.requires.room) c.requires.machine.typed in
    let back_2 = written_back c.args.self.now.lanes.len c.run_tasks.new.lanes _ c.as_mut_slice-3.result.now c.as_mut_slice-3.ensures.value c.as_mut_slice-3.ensures.len c.run_tasks.ensures.steady.long in
    let steady_2 : Steady c.args.ops.now c.args.strip.room c.load_ports.new.lanes c.run_tasks.new.lanes = subst (λ ls. Steady c.args.ops.now c.args.strip.room ls c.run_tasks.new.lanes) back c.run_tasks.ensures.steady in
    let both : Steady c.args.ops.now c.args.strip.room c.args.self.now.lanes.items c.run_tasks.new.lanes = steady_more c.args.ops.now c.args.strip.room c.args.self.now.lanes.items c.load_ports.new.lanes c.run_tasks.new.lanes steady steady_2 in
    let new_tasks : AreTasks c.args.ops.now c.args.self.now.room c.run_tasks.new.lanes c.args.self.now.tasks.items =
    subst (λ n. AreTasks c.args.ops.now n c.run_tasks.new.lanes c.args.self.now.tasks.items) c.requires.room (tasks_steady c.args.ops.now c.args.strip.room c.args.self.now.lanes.items c.run_tasks.new.lanes both c.args.self.now.tasks.items tasks) in
    let new_typed : TypedLanes c.args.ops.now c.args.self.now.room c.run_tasks.new.lanes =
    subst (λ n. TypedLanes c.args.ops.now n c.run_tasks.new.lanes) c.requires.room (typed_steady c.args.ops.now c.args.strip.room c.args.self.now.lanes.items c.run_tasks.new.lanes both typed) in
    record {
      positions = c.requires.machine.positions;
      some = c.requires.machine.some;
      some_row = c.requires.machine.some_row;
      tasks = subst (λ ls. AreTasks c.args.ops.now c.args.self.now.room ls c.args.self.now.tasks.items) (sym back_2) new_tasks;
      typed = subst (λ ls. TypedLanes c.args.ops.now c.args.self.now.room ls) (sym back_2) new_typed;
      places = ap length (sym c.as_slice-3.ensures.value ∙ placed) ∙ c.load_ports.ensures.places.long ∙ sym steady_2.long ∙ sym (ap length back_2);
      spares = subst (λ n. HasRoom n c.run_tasks.new.spares) c.requires.room c.run_tasks.ensures.spares;
      reads = c.requires.machine.reads;
      stores = c.requires.machine.stores;
    }

pub returns-clause-same : goal.returns-clause-same
returns-clause-same c b =
    ap (λ (f : Bases). outline (f b)) c.store_ports.ensures.bases
    ∙ outline_stored c.args.strip.position c.args.strip.count (lane_columns c.args.ops.now (number c.as_slice-5.result.now) c.args.strip.position) (stores c.args.ops.now) (cells c.load_ports.new.store) b
    ∙ ap (λ f. outline (finite.get f b)) c.load_ports.ensures.bases
