-- What a part of a file declares: its items and its deliveries.
use Rattle.std.specs.Prelude.{List, vec_items, slice_range}
use Rattle.hir_def.specs.declared.ModuleDefId.{ModuleDefId}
use Rattle.firmware.specs.declared.pile.Part.{Part}
use Rattle.firmware.specs.declared.file.DeliveryStatement.{DeliveryStatement}
use Rattle.firmware.specs.declared.file.Firmware.{Firmware}
use Rattle.firmware.specs.Models.{began, ended}

abbrev pub items_in : Firmware → Part → List ModuleDefId
items_in f part = slice_range (vec_items f.definitions.of_a_kind) (began f part).items (ended f part).items

abbrev pub deliveries_in : Firmware → Part → List DeliveryStatement
deliveries_in f part = slice_range (vec_items f.deliveries) (began f part).deliveries (ended f part).deliveries
