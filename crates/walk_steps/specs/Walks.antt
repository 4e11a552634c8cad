-- What a walk is given, by its struct.
use Rattle.walk_steps.specs.declared.walk.Walk.{Walk}
use Rattle.walk_steps.specs.Given.{Given, given}

abbrev pub given_of : Walk → Given
given_of w = given w.nodes.now w.cap w.b w.bytes.now
