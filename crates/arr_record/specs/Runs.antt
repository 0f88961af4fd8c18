-- Parts that run one after another, the slots being taken out after each list.
use Rattle.std.specs.Prelude.{List, [], ◌∷◌, ◌++◌, Bool, true, ◌&&◌, nat_le, length}
use Rattle.arr_ops.specs.declared.op.Op.{Op}
use Rattle.arr_ops.specs.Memory.{Memory, Slot, eager, without_slots}
use Rattle.arr_ops.specs.Formed.{is_formed}
use Rattle.arr_ops.specs.Fits.{fits}
use Rattle.arr_ops.specs.Gathers.{gathered, scattered, is_gather, is_scatter, gather_fits, scatter_fits}
use Rattle.arr_elab.specs.Steps.{printed}
use Rattle.arr_record.specs.declared.part.Part.{Part}
use Rattle.arr_record.specs.declared.part.Part.TheVariants.{Flush, Gather, Scatter}
use Rattle.arr_record.specs.Parts.{most}

abbrev pub after_part : Memory → Part → Memory
after_part m (Flush list) = without_slots (eager m list)
after_part m (Gather g) = gathered m g
after_part m (Scatter g) = scattered m g

abbrev pub after_parts : Memory → List Part → Memory
after_parts m [] = m
after_parts m (part ∷ parts) = after_parts (after_part m part) parts

-- the slots of each list in order, the parts one after another
abbrev pub printed_part : Memory → Part → List Slot
printed_part m (Flush list) = printed m list
printed_part m _ = []

abbrev pub printed_parts : Memory → List Part → List Slot
printed_parts m [] = []
printed_parts m (part ∷ parts) = printed_part m part ++ printed_parts (after_part m part) parts

-- each part fits the memory that it meets
abbrev pub part_fits : Memory → Part → Bool
part_fits m (Flush list) = fits m list
part_fits m (Gather g) = gather_fits m g
part_fits m (Scatter g) = scatter_fits m g

abbrev pub each_fits : Memory → List Part → Bool
each_fits m [] = true
each_fits m (part ∷ parts) = part_fits m part && each_fits (after_part m part) parts

-- as many operations as a list may have
abbrev pub is_sized : List Op → Bool
is_sized list = nat_le 1 (length list) && nat_le (length list) most

-- a formed list of such a size, or a gather or scatter as there are
abbrev pub is_part : Part → Bool
is_part (Flush list) = is_formed list && is_sized list
is_part (Gather g) = is_gather g
is_part (Scatter g) = is_scatter g
