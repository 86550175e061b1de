pub mod RoomLaws
pub mod PlanLaws
pub mod WholeLaws
pub mod GoodLaws
