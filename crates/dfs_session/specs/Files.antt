-- What files stand for.
use Rattle.std.specs.Prelude.{ℕ, List, map, Option, Some, None}
use Rattle.dfs_host.specs.Host.{HostState, bytes_of}
use Rattle.dfs_registry.specs.declared.listed.Listed.{Listed}
use Rattle.dfs_registry.specs.Reading.{Reading, listing, not_a_registry, damaged, registry}
use Rattle.dfs_change.specs.Meant.{log_meaning}
use Rattle.dfs_session.specs.Session.{Publication, Registry}

-- an entry of the registry, with what its job's log means
abbrev pub publication_of : (ℕ → List ℕ) → Listed → Publication
publication_of files l = record { name = l.name; job = l.job; change = log_meaning (files l.job) l }

abbrev pub publications_of : (ℕ → List ℕ) → List Listed → Registry
publications_of files ls = map (publication_of files) ls

abbrev pub value_read : (ℕ → List ℕ) → Reading → Option Registry
value_read files (listing ls) = Some (publications_of files ls)
value_read files not_a_registry = None
value_read files (damaged place) = None

-- The registry that files stand for: the entries of file 0, each with the change set of its job's log. None where file 0 is no registry.
abbrev pub value : (ℕ → List ℕ) → Option Registry
value files = value_read files (registry (files 0))

-- what the files of a host stand for as they read
abbrev pub value_on : HostState → Option Registry
value_on host = value (bytes_of host)
