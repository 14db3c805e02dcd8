use Rattle.std.proofs.Common.{true, false, length, Option, ap, ◌∙◌, subst, sym}
use Rattle.std.specs.Option.{option_map_or}
use Rattle.std.specs.Result.{result_ok}
use Rattle.coverage.specs.declared.description.Description.{Description}
use Rattle.coverage.specs.Axes.{extents}
use Rattle.shelf.specs.declared.fault.MakingFault.{MakingFault}
use Rattle.shelf_laws.specs.ByteGrid.{byte_cells, byte_grid_fault, byte_keeps, byte_kind, byte_meaning}
use Rattle.shelf_laws.specs.Making.{grid_fault}
use Rattle.shelf_laws.specs.Single.{MadeFixed}
use Rattle.shelf_laws.proofs.ByteGrids.{byte_fault_is, bytes_kept}
use Rattle.shelf_laws.proofs.Makings.{described_passes, grid_allowed}
use Rattle.shelf_laws.proofs.Singles.{made_fixed}
use Rattle.shelves.proofs.byte_grid_making.make_byte_grid.Goals as goal

pub invariant_of-result : goal.invariant_of-result
invariant_of-result c =
    let name = c.args.name.now in
    let bs = c.args.bytes.now in
    let d = extents c.args.domain in
    record {
      kept =
          ap (λ o. option_map_or (byte_keeps bs) o true) c.ok.ensures.value
          ∙ described_passes (byte_keeps bs) (grid_fault name d byte_kind (length bs)) name c.args.domain byte_kind false c.describe_grid.result c.describe_grid.ensures
          (λ a e s. bytes_kept name c.args.domain bs a (grid_allowed name d byte_kind (length bs) e) s);
    }

pub returns : goal.returns
returns c =
    let name = c.args.name.now in
    let bs = c.args.bytes.now in
    let d = extents c.args.domain in
    let f = grid_fault name d byte_kind (length bs) in
    let made = made_fixed f name c.args.domain byte_kind (byte_cells bs) c.describe_grid.result c.describe_grid.ensures in
    let Made : Option MakingFault → Option Description → Type 0 = λ g o. MadeFixed g name c.args.domain byte_kind (byte_cells bs) (byte_meaning o bs) in
    subst (Made (byte_grid_fault name d (length bs))) (sym c.ok.ensures.value) (subst (λ g. Made g (result_ok c.describe_grid.result)) (byte_fault_is name d (length bs)) made)
