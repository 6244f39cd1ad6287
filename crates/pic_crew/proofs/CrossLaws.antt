-- What seats work with may be shared by threads.
use denote.Param.Send.{IsSync, recorded_sync, shr_sync, struct_sync}
use denote.RattleType.{RattleType}
use denote.Ref.{NamedLft}
use denote.Struct.Declared.{Declared, shape}
use denote.Struct.Struct.{Struct}
use Rattle.pic_yard.proofs.CrossLaws.{yard_sync}
use Rattle.pic_crew.specs.contracts.team.Crew as crew

pub crew_sync : (κ : NamedLft) (G : RattleType) → IsSync G → IsSync (crew.the_row κ G)
crew_sync κ G gate =
    let kind : Declared = crew.the_type κ G in
    recorded_sync (Struct (shape kind)) kind.D kind.to kind.to_one (struct_sync (shape kind) (shr_sync _ _ _ yard_sync, (shr_sync _ _ _ gate, tt)))
