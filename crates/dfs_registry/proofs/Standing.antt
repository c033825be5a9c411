-- What a registry that stands on a host means for file 0 and for its images.
use Rattle.std.proofs.Common.{◌≡◌, ◌∙◌, List, ap}
use Rattle.dfs_host.specs.Disk.{Image, IsSettled}
use Rattle.dfs_host.specs.Host.{HostState, bytes_of, LeavesNow}
use Rattle.dfs_host.proofs.Files.{left_when_settled}
use Rattle.dfs_registry.specs.declared.listed.Listed.{Listed}
use Rattle.dfs_registry.specs.Reading.{registry as reading, listing, at_rest, IsListing}
use Rattle.dfs_registry.specs.Seen.{RegistryState}
use Rattle.dfs_registry.specs.Standing.{RegistryStands, LeavesList}
use Rattle.dfs_registry.proofs.Commit.{rests}

pub standing_list : (host : HostState) (registry : RegistryState) → RegistryStands host registry → reading (bytes_of host 0) ≡ listing registry.entries
standing_list host registry is = ap reading is.file ∙ rests registry.entries is.listing

pub leaves_list : (host : HostState) (bs : List Listed) → IsSettled (host.disk.files 0) → bytes_of host 0 ≡ at_rest bs → IsListing bs → LeavesList host bs
leaves_list host bs settled file is image leaves = ap reading (left_when_settled settled (image.files 0) (leaves.files 0)) ∙ ap reading file ∙ rests bs is

-- Every image now has the registry's list: so after a commit the publication is in it.
pub standing_images : (host : HostState) (registry : RegistryState) → RegistryStands host registry → (image : Image) → LeavesNow host image → reading (image.files 0) ≡ listing registry.entries
standing_images host registry is = leaves_list host registry.entries is.settled is.file is.listing
