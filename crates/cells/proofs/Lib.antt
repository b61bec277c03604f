-- Laws of the packed cell and of the bridge.
pub mod Laws
pub mod Store
pub mod CountLaws
