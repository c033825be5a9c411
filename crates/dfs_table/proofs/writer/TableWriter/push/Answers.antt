use Rattle.std.proofs.Common.{◌≤◌, ◌*◌, length, sym, subst}
use Rattle.dfs_table.specs.Writer.{WriterState, count_in}
use Rattle.dfs_table.proofs.Steps.{closed_enough}
use Rattle.dfs_table.proofs.writer.TableWriter.push.Goals as goal

pub returns-in-Ok-clause-enough : goal.returns-in-Ok-clause-enough
returns-in-Ok-clause-enough g c = subst (λ (w : WriterState). 4096 * length w.closed ≤ count_in w) (sym c.self-2.view_is) (closed_enough c.place.new.self c.in-Ok.ensures.sound)
