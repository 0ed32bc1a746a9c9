pub mod Taking
mod OneMore
