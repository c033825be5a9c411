use Rattle.std.proofs.Common.{◌≡◌, ℕ, take, map}
use Rattle.std.specs.Prelude.{Some, option_copied}
use Rattle.std.specs.List.{AllByRecursion}
use Rattle.dfs_host.specs.Host.{HostState}
use Rattle.dfs_cursor.specs.Either.{of_inside}
use Rattle.dfs_cursor.specs.Ranges.{part, unread_of}
use Rattle.dfs_table.specs.declared.run.Run.{Run}
use Rattle.dfs_view.specs.Layers.{Stand, records_on, runs_of}
use Rattle.dfs_view.specs.Sources.{inner_rest}
use Rattle.dfs_view.proofs.sources.parts.Given as goal

abbrev pub invariant-loop-index : goal.invariant-loop-index
invariant-loop-index l = record {
  rests : (host : HostState) → Stand host l.layers → map (λ s. part (option_copied s.low) (option_copied s.high) (inner_rest s.inner)) l.sources.items ≡ map (λ (r : ℕ × Run). part (Some l.low) (option_copied l.high) (records_on host r.1)) (take l.index (runs_of l.layers));
  loaded : AllByRecursion (λ s. unread_of (option_copied s.high) (inner_rest s.inner) (of_inside (λ _. 0) (λ _. 0) s.inner) ≡ 0) l.sources.items;
}
