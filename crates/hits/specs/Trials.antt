-- The test that a search makes, by its struct.
use Rattle.hits.specs.declared.trial.Trial.{Trial}
use Rattle.hits.specs.Hit.{Test}
use Rattle.hits.specs.Probes.{test_by}

abbrev pub tried : Trial → Test
tried t = test_by t.pages.now t.sketches.now t.query.now t.probe
