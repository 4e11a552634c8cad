-- What a scope holds.
use Rattle.node_check.specs.declared.scope.Scope.{Scope}
use Rattle.node_check.specs.Given.{Given, given}

abbrev pub within : Scope → Given
within s = given s.nodes.now s.pages.now s.sketches.now s.block s.rows s.window
