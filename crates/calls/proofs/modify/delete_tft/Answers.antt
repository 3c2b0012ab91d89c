use mathlib.Core.Path.{refl}
use mathlib.Core.Bool.{true}
use lib.ListN.{replicate}
use Rattle.filter.specs.Sizes.{place_count}
use Rattle.table.specs.Bearers.{index_of}
use Rattle.calls.specs.Modify.{deleted_tft}
use Rattle.calls.proofs.Changing.{deleted_made}
use Rattle.calls.proofs.modify.delete_tft.Goals as goal

pub returns : goal.returns
unfolding deleted_tft
returns c =
    rw (c.delete.ensures, c.accept.ensures, c.index_of.ensures, deleted_made c.args.table.now c.requires (index_of c.args.bearer) (replicate place_count true)) refl
