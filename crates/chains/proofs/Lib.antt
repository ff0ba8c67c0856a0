-- What belongs to no one function.
pub mod RoomLaws
pub mod JoiningLaws
pub mod NearLaws
pub mod FillingLaws
pub mod TryingLaws
pub mod WritingLaws
