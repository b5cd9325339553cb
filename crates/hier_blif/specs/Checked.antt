-- What is known of models that are checked.
use Rattle.std.specs.Prelude.{◌≡◌, List}
use Rattle.hier_blif.specs.declared.model.BlifModel.{BlifModel}
use Rattle.hier_blif.specs.declared.checks.CheckedModels.{CheckedModels}
use Rattle.hier_blif.specs.Scopes.{IsScope}
use Rattle.hier_blif.specs.Order.{IsBottomUp}
use Rattle.hier_blif.specs.Sizes.{AreSizes}
use Rattle.hier_blif.specs.Checks.{AreChecked}

-- The models are checked, and so they stand in order, and are sized.
pub record IsCheckOf (models : List BlifModel) (checked : CheckedModels) : Type 0 where
  pub are : AreChecked models
  pub same : checked.scope.models.now ≡ models
  pub scope : IsScope checked.scope
  pub order : IsBottomUp models checked.order.items
  pub sizes : AreSizes models checked.sizes.items
